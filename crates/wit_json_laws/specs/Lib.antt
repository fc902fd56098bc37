pub mod Laws
pub mod PlainTrees
