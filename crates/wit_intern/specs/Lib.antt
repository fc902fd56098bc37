pub mod FiniteMap
pub mod TypeKeys
