pub mod Label
pub mod Prefix
pub mod Mangled
pub mod Folded
pub mod Setter
pub mod Track
