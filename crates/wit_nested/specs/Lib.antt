pub mod Nested
pub mod PackageNames
pub mod NestedSources
pub mod PushFaults
pub mod GroupFaults
pub use Rattle.wit_parser.specs.Ids
pub use Rattle.wit_parser.specs.Marks
pub use Rattle.wit_parser.specs.Stray
