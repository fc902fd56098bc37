pub mod Texts
pub mod Trimmed
pub mod PlainComments
