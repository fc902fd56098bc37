pub mod Laying
pub mod Lines
pub mod Splitting
pub mod Turning
pub mod Searching
mod Pieces
pub mod Pairing
