mod Pools
mod Names
mod Truths
mod Means
mod Types
mod Compiled
mod Emitted
mod EndedBlocks
mod EmittedTests
mod Jumps
mod Turns
mod Chains
mod WeightLemmas
mod Includes
pub mod CallLemmas
pub mod PathLemmas
pub mod ProcedureSizes
pub mod ProcedureTypes
mod ProcedureRows
mod IncludesTypes
mod Rows
mod LevelLemmas
mod NumberLemmas
mod PathTables
mod CallsEmitted
pub mod InclusionLemmas
mod SharedMeaning
mod SharedSteps
mod WrittenProcedures
mod ProceduresEmitted
mod SharedTypes
mod SharedCompiled
mod SharedBuilt
mod ImageParts
