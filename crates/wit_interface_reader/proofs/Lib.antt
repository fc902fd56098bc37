pub mod Items
pub mod Prefixed
pub mod Braces
pub mod Definitions
