pub mod Stated
pub mod Occurrences
pub mod Turns
pub mod Entries
pub mod Others
pub mod Made
