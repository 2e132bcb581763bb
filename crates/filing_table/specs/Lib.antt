pub mod Machine
pub mod Comparison
pub mod Ends
pub mod VersionOne
