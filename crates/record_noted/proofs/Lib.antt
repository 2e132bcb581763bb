pub mod AdditionLemmas
pub mod FoundingLemmas
pub mod HistoryLemmas
pub mod OpeningLemmas
pub mod ReadingLemmas
pub mod RowLemmas
