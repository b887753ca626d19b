pub mod Views
pub mod Refusals
