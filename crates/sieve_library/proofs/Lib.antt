pub mod LocationLemmas
mod EntryLemmas
mod Rows
