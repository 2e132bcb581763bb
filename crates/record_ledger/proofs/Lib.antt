pub mod CarryLemmas
pub mod LiftLemmas
pub mod NotingLemmas
pub mod RepositoryLemmas
