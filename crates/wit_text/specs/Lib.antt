pub mod After
pub mod Files
pub mod Packages
pub mod WorldItems
