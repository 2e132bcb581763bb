pub mod Faults
pub mod Setting
pub mod NewMail
