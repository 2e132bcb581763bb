pub mod Sessions
pub mod Refusals
pub mod Unserved
