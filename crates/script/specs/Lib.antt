pub mod Drafts
pub mod Requests
pub mod Commands
pub mod Wording
