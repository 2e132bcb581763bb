pub mod FoundLemmas
pub mod Judging
pub mod Known
pub mod Least
pub mod Shaped
pub mod Strings
pub mod Twice
pub mod Walks
mod Rows
