pub mod CallLemmas
pub mod Rows
