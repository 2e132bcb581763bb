pub mod Feeding
pub mod PathLemmas
pub mod ValueLemmas
