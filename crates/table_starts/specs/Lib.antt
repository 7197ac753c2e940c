-- The definitions of the crate.
pub mod Starts
