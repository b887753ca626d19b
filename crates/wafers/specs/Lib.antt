pub mod Stays
pub mod Held
pub mod Spots
pub mod Views
