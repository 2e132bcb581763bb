pub mod Fields
pub mod Message
pub mod Pieces
pub mod Views
pub mod Whole
