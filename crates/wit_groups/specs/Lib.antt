pub mod Groups
pub mod SourceFaults
pub mod SameGroups
pub use Rattle.wit_nested.specs.Ids
pub use Rattle.wit_nested.specs.Marks
pub use Rattle.wit_nested.specs.Stray
pub use Rattle.wit_nested.specs.Nested
pub use Rattle.wit_nested.specs.PushFaults
pub use Rattle.wit_nested.specs.GroupFaults
pub use Rattle.wit_nested.specs.PackageNames as NestedNames
