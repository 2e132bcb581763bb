pub mod Lists
pub mod Archive
pub mod Refiling
pub mod Lines
pub mod Faults
pub mod Calls
