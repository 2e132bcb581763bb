pub mod ResultLemmas
pub mod Lengths
pub mod HeldLemmas
pub mod ClassLemmas
pub mod FlightsLemmas
pub mod BegunLemmas
pub mod PlanLemmas
pub mod StoodLemmas
