-- The definitions of the crate.
pub mod Turns
pub mod Ways
pub mod Drill
