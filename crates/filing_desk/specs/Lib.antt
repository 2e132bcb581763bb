pub mod Judging
pub mod DryRuns
pub mod Standing
pub mod Messages
pub mod Beginning
pub mod Filing
pub mod Deliveries
