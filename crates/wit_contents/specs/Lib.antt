pub mod Making
pub mod Interfaces
pub mod Files
pub mod Walk
pub mod Worlds
pub mod Names
