pub mod Lookups
pub mod Quiet
pub mod Selects
pub mod RawRows
pub mod DueRecords
pub mod StoredDues
pub mod Pages
pub mod Events
