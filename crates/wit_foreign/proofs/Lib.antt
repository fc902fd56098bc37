pub mod Same
pub mod Firsts
pub mod Upserts
pub mod Places
pub mod Extended
pub mod Growth
