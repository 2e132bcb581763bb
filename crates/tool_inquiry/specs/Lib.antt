pub mod Names
pub mod Files
pub mod Shelving
pub mod Outcomes
pub mod Partings
pub mod Inquiries
pub mod Culprits
