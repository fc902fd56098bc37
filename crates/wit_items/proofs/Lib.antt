pub mod Documented
pub mod Found
pub mod Inlined
pub mod Others
pub mod PlacedNames
pub mod Written
pub mod Common
