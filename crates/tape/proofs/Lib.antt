-- The laws of the crate.
pub mod Plays
pub mod Reached
pub mod Prints
pub mod Slides
