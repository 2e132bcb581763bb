mod Rows
pub mod CitedLaws
pub mod Verdicts
pub mod OfficeOnce
pub mod Sessions
pub mod SerialOnce
pub mod Pinned
pub mod TicketLemmas
pub mod Changes
pub mod Refusals
pub mod Sources
pub mod InFlight
pub mod RecordLemmas
pub mod Unchanged
pub mod RefusedAnywhere
pub mod KeptLines
pub mod CommandLines
pub mod ImageLemmas
pub mod TagKinds
pub mod ReadArguments
pub mod ReadWords
pub mod BlindTests
pub mod KeptByRules
mod QuestionRows
