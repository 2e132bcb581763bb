pub mod Numbers
pub mod Program
pub mod Reading
pub mod Spelling
