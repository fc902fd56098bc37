pub mod Paired
