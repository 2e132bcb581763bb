pub mod Path
pub mod Paths
