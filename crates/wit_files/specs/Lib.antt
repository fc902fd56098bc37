pub mod ForeignPaths
pub mod FileNames
pub mod Visits
pub mod Laws
