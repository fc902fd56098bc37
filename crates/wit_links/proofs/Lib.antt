pub mod Counted
pub mod Leading
