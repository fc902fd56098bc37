pub mod Heap
pub mod Released
pub mod Counted
pub mod Cut
pub mod Turned
