pub mod Laws
pub mod SourceLaws
pub mod Lines
pub mod Outputs
