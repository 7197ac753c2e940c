-- The definitions of the crate.
pub mod Drills
