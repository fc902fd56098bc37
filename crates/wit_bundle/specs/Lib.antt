pub mod Bundle
pub mod Laid
pub mod SplitText
pub mod SourcePaths
pub mod Apart
