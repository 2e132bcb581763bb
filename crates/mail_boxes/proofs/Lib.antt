pub mod LineLemmas
pub mod Rows
pub mod SplitLemmas
pub mod UndatedLemmas
