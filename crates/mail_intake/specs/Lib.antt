pub mod Calls
pub mod Fates
pub mod Folders
pub mod Intakes
pub mod Order
pub mod Telling
