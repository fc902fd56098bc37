pub mod Attributes
pub mod Comments
pub mod TypeParts
pub mod RefusalText
