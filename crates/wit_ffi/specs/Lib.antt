pub mod Answer
pub mod Checked
pub mod Fields
pub mod Room
pub mod Reply
