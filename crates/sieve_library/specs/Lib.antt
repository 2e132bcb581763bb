pub mod Libraries
pub mod Entries
pub mod BorrowedShelves
