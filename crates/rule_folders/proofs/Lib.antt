pub mod Exactly
pub mod Numbers
pub mod Rows
pub mod Scans
pub mod Slashes
pub mod Walking
