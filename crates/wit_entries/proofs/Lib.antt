pub mod Reading
mod Digested
mod Known
pub mod Resolves
mod EndsOfEntries
pub mod Requiring
mod Settled
pub mod Noted
mod Ending
pub mod Faults
