mod Comments
pub mod Maps
mod LineEnds
mod Versions
pub mod Lexing
pub mod VersionLexing
mod Walking
mod DocsLexing
