pub mod After
pub mod Deeper
pub mod FoundVersions
pub mod Primitives
pub mod Reading
pub mod ResultTypes
pub mod Versions
