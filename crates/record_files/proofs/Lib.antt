pub mod ClosingLemmas
pub mod CopyingLemmas
pub mod PoolLemmas
pub mod ArchiveLemmas
pub mod BlankLemmas
pub mod OpeningLemmas
