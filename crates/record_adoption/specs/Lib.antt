pub mod Counts
pub mod Keeping
pub mod Faults
pub mod Adoption
