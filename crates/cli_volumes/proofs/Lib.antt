pub mod CallLaws
pub mod RowLaws
pub mod SlashLaws
mod AdoptingRows
mod FindingRows
mod RowRows
