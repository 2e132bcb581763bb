pub mod Additions
pub mod Foundings
pub mod Histories
pub mod Keepers
pub mod Openings
pub mod Readings
pub mod Rows
