pub mod Case
pub mod Runs
pub mod Acts
