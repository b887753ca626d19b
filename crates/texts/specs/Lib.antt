pub mod Form
pub mod Meaning
pub mod Equal
