mod LastHeader
mod Images
mod EachMade
mod FunctionMarks
mod PartsTurns
pub mod PartsScopes
mod PartsSeen
mod PartsOrders
mod KnownScopes
mod KnownOwners
mod KnownMembers
mod PartsMade
mod Ids
pub mod Pushing
mod FirstFault
