pub mod Places
pub mod Frees
pub mod Keys
pub mod Changes
