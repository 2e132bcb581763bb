pub mod Boxes
pub mod Marks
pub mod NoMail
pub mod Splitters
pub mod Undated
