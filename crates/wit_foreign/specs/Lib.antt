pub mod Kept
pub mod Growing
