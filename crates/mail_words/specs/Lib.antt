pub mod Unfolding
pub mod Words
pub mod Charsets
pub mod Decoding
pub mod Meaning
pub mod Value
pub mod Spans
