pub mod LaidLemmas
pub mod PlanDays
pub mod Sorting
pub mod AdoptHolds
pub mod AdoptRows
pub mod AdoptPlan
pub mod AdoptReads
pub mod AdoptSettled
