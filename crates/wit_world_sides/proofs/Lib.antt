pub mod Putting
pub mod PutFaults
