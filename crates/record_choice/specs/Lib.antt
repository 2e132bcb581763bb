pub mod Choices
pub mod Disposals
pub mod Entries
pub mod Reads
pub mod Reasons
pub mod Views
pub mod Walks
