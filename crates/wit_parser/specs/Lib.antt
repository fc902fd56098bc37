pub mod Ids
pub mod Marks
pub mod OnePackage
pub mod Stray
