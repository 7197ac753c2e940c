-- The definitions of the crate.
pub mod Skyline
pub mod Past
pub mod Halves
