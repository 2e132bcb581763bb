pub mod Kept
pub mod OrderLaws
pub mod Passing
pub mod Rows
