pub mod Typed
pub mod Questions
pub mod Reads
pub mod Holds
pub mod Disposals
pub mod Headers
pub mod TypedVolumes
pub mod Faults
