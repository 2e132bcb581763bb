mod Rows
pub mod Alone
