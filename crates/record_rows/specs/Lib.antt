pub mod Rules
pub mod Merge
pub mod SoundRows
pub mod Tests
pub mod Texts
