pub mod Packing
pub mod Layout
pub mod Sizes
pub mod Standing
pub mod Reads
pub mod Laws
