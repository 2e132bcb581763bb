pub mod Slots
pub mod Sets
pub mod IncludedScripts
pub mod ReachTables
pub mod Keys
pub mod ProcedureCode
