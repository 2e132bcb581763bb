pub mod Choices
pub mod Joins
pub mod Zips
pub mod Typed
pub mod Pushes
pub mod Visible
pub mod Escapes
mod Rows
