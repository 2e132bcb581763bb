mod HeaderLemmas
pub mod CutLemmas
pub mod MomentLemmas
pub mod TextLemmas
pub mod FieldLemmas
mod FieldRows
mod HistoryRows
pub mod HistoryLineLemmas
mod DueRows
mod DueLemmas
mod JsonLemmas
mod JsonRows
mod AsciiLemmas
