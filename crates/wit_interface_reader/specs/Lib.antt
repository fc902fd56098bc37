pub mod After
pub mod ReadParts
