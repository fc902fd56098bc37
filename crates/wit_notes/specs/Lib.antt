pub mod Indents
pub mod BorrowedMetadata
pub mod PlainComments
pub mod Texts
