pub mod DoneLemmas
pub mod CopyLemmas
pub mod CaptureLaws
pub mod RoundLaws
pub mod ImportLaws
pub mod ChangeLemmas
pub mod ReadingLaws
pub mod VolumeLaws
pub mod DisposalLaws
pub mod DownLaws
pub mod BackLaws
pub mod ReleaseLaws
pub mod MoveLaws
pub mod SettingLaws
pub mod HistoryLaws
mod PlaceRows
mod PurposeRows
