pub mod Meaning
pub mod Making
