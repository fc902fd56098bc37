pub mod Refusals
pub mod Others
pub mod Gathering
pub mod Added
