pub mod TruthLemmas
pub mod RunLemmas
pub mod IncludeLemmas
pub mod OutcomeLemmas
pub mod ActLemmas
