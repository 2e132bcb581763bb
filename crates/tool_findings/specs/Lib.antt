pub mod Commands
pub mod Cutting
pub mod Judgements
pub mod LoneTests
