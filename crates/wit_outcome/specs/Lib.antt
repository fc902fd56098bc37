pub mod Outcome
pub mod Plain
