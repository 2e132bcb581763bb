mod SlotLemmas
mod SetLemmas
mod OnceLemmas
mod IncludedLemmas
mod ReachTables
mod KeyLemmas
mod MadeLemmas
mod EnterLemmas
pub mod LevelLemmas
