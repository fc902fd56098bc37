pub mod AliasEnds
pub mod Left
pub mod Lookups
pub mod Valid
