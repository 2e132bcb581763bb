pub mod Items
pub mod StateViews
pub mod Runs
pub mod Tops
pub mod StepRecords
