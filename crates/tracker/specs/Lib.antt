pub mod Tracked
pub mod Checked
pub mod Served
