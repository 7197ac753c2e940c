-- The definitions of the crate.
pub mod Merging
pub mod Runs
pub mod Accepted
