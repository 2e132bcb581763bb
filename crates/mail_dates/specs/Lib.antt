pub mod Comments
pub mod Dating
pub mod Moments
