pub mod Known
pub mod Fates
pub mod Tallies
pub mod Calls
pub mod Sources
pub mod Findings
pub mod Imports
