pub mod Closing
pub mod Copying
pub mod Files
