pub mod KeyHashes
pub mod Lent
pub mod NameScopes
pub mod KeyedNames
