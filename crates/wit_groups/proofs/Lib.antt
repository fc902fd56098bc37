pub mod Sequences
pub mod Used
pub mod FirstFaults
pub mod Outcome
mod Same
pub use Rattle.wit_nested.proofs.Group
pub use Rattle.wit_nested.proofs.Names
pub use Rattle.wit_nested.proofs.Pushes
