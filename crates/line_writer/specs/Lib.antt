-- The definitions of the crate.
pub mod Written
pub mod Runs
