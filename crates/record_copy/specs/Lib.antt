pub mod Faults
pub mod NewRows
pub mod Messages
pub mod Copies
