pub mod CountLemmas
pub mod InertLemmas
pub mod ShownLemmas
pub mod TallyLemmas
pub mod DayLemmas
mod Rows
pub mod MarkLemmas
pub mod KeptLemmas
pub mod SeenLemmas
pub mod PushLemmas
pub mod HoldLemmas
mod OrderLemmas
