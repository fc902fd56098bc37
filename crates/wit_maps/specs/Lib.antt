pub mod Indexed
pub mod Slots
pub mod TextEntries
