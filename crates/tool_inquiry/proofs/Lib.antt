pub mod PathLemmas
pub mod OutcomeLemmas
pub mod PartingLemmas
pub mod ShelvingLemmas
