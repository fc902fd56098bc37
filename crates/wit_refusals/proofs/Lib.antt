pub mod Cases
pub mod Tables
pub mod Seeing
pub mod Few
pub mod Scoping
pub mod Apart
