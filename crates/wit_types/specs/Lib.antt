pub mod TypeOrders
pub mod Sizes
pub mod Spans
pub mod Stabilities
pub mod InnerTypes
pub mod KindWords
