pub mod Externs
