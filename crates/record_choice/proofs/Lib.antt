pub mod EntryLaws
pub mod PageLaws
pub mod QuestionLaws
pub mod Judged
pub mod DestructionLaws
pub mod Keepers
pub mod Asked
mod Rows
