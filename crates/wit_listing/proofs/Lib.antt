pub mod Digits
pub mod Growing
pub mod Placing
pub mod Written
