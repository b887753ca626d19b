pub mod Pairs
pub mod Written
pub mod Escapes
pub mod Echoing
pub mod Runs
