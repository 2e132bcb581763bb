pub mod JoiningLaws
pub mod RollingLaws
mod VolumesRows
