pub mod Numbers
pub mod Places
pub mod Framing
pub mod Forms
pub mod Quoting
