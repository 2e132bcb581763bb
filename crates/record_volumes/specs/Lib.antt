pub mod Rolling
pub mod Rows
pub mod Volumes
