pub mod Names
pub mod Named
pub mod Tables
pub mod Decoding
