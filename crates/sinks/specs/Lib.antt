pub mod Putting
pub mod Kept
