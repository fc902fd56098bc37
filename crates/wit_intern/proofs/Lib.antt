pub mod TypeKeys
pub mod SameKeys
pub mod Steps
