pub mod Meant
pub mod Stands
