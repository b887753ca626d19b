pub mod Showing
pub mod Vacating
