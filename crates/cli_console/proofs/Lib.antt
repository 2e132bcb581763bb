pub mod Ahead
pub mod Told
pub mod Noted
pub mod JoinedLaws
mod Rows
