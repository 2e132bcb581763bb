pub mod NewRowsLemmas
pub mod LookLemmas
pub mod CopyLemmas
pub mod CauseLemmas
