-- The definitions of the crate.
pub mod Pairs
pub mod Frames
