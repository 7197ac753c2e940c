-- The definitions of the crate.
pub mod Plays
pub mod Numbers
