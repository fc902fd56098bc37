pub mod Known
pub mod ResolvedForms
pub mod EntryFaults
