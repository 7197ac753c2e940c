-- The laws of the crate.
pub mod Over
pub mod Beaten
pub mod Thinning
pub mod Merging
pub mod Halving
pub mod Answering
