pub mod Prefixes
pub mod ForeignUses
mod ForeignName
