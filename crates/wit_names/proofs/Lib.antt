pub mod Reading
pub mod Tracks
pub mod LabelBytes
pub mod Labels
pub mod MadeNames
mod Examples
pub mod Fragments
