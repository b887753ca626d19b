pub mod Going
pub mod Plans
pub mod Views
