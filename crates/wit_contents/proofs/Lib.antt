pub mod Files
mod Members
mod MemberFaults
mod WorldFaults
pub mod Ends
pub mod Walked
pub mod PathsWalked
pub mod MembersWalked
pub mod ResolvedItems
pub mod RightWorlds
pub mod RightInterfaces
pub mod FileFaults
pub mod Names
