pub mod BorrowedNames
pub mod DefinitionOrder
