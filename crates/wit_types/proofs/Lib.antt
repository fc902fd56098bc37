pub mod Moving
pub mod Same
