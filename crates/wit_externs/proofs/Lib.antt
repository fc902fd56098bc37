mod Named
pub mod Steps
pub mod Clashing
pub mod DoneFunctions
pub mod Linked
pub mod AloneFaults
pub mod FirstSetters
