pub mod FirstNames
pub mod Lost
