pub mod Includes
pub mod Names
pub mod Paths
pub mod Reached
pub mod Reading
pub mod Steps
