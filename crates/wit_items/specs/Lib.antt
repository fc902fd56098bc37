pub mod BorrowedItems
pub mod ResolvedInterfaces
pub mod ItemPaths
