pub mod Choices
pub mod Numbers
pub mod Ranges
pub mod Readings
pub mod Typed
pub mod Volumes
