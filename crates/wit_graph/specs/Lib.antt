pub mod Edges
pub mod TableFaults
pub mod Graph
pub mod Order
pub mod Refused
pub mod PlaceGraph
pub mod Table
pub mod Laws
