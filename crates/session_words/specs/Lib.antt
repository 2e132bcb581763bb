pub mod Words
pub mod Verbs
