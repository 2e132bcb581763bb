pub mod Structure
pub mod Code
pub mod Effect
pub mod Types
pub mod Whole
pub mod Procedures
pub mod Compiled
