pub mod Copies
pub mod Same
pub mod SameMaps
pub mod WorldSpans
pub mod PackageSpans
pub mod Lookups
