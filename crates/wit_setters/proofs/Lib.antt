pub mod Results
mod OwnNames
pub mod Keys
mod OneSide
mod Pairing
pub mod Sought
