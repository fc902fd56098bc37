pub mod Checks
pub mod Tops
