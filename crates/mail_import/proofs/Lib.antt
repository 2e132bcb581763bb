pub mod KnownLaws
pub mod FindingLaws
pub mod SourceLaws
pub mod Taken
mod Rows
