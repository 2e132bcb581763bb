pub mod Rows
pub mod Once
pub mod Kept
