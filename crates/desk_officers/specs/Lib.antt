pub mod Ends
pub mod Register
pub mod Codes
pub mod Profiles
pub mod Current
pub mod Filed
pub mod Changes
