pub mod Segments
pub mod PathLemmas
