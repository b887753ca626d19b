pub mod Numerals
pub mod Splitting
