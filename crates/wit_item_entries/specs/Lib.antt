pub mod AddedNames
pub mod ReachedFaults
pub mod Body
