pub mod Counts
pub mod Indexes
pub mod Holds
pub mod Sealed
pub mod Judging
pub mod Findings
pub mod Refilings
