pub mod Parting
pub mod Kept
mod Rows
pub mod Texts
pub mod TypedVolumeLaws
mod VolumeRows
mod FaultLemmas
