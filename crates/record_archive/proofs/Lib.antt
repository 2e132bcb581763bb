pub mod RefilingRows
