mod FunctionTables
pub mod ScopeFunctions
pub mod NameOrder
pub mod ReachedFaults
