pub mod NodeLemmas
mod Rows
