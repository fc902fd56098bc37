pub mod SideNames
