pub mod FoldLemmas
pub mod GroupLemmas
pub mod OccurrenceLemmas
pub mod PieceLemmas
pub mod SearchLemmas
pub mod TrialLemmas
pub mod TwoWayLemmas
