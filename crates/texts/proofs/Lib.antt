pub mod Stored
pub mod Copying
