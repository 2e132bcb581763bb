pub mod Judgements
pub mod Renamings
