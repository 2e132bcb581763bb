pub mod MatchingLemmas
pub mod OutcomeLaws
pub mod RunFaultLemmas
pub mod PartLaws
mod ProcedureRows
pub mod SharingLemmas
pub mod ProcedureLemmas
pub mod ReachLemmas
mod Rows
