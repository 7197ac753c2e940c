-- The definitions of the crate.
pub mod Pieces
pub mod Runs
