pub mod Ended
pub mod Exported
pub mod Grouped
pub mod Pieces
mod Rows
pub mod VolumeExportLaws
pub mod VolumeListLaws
pub mod VolumeReportLaws
pub mod VolumeTwiceLaws
