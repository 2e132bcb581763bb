pub mod Ledgers
pub mod Notes
pub mod Notings
