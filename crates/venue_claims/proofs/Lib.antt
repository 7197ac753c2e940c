-- The laws of the crate.
pub mod Merges
pub mod StampedQuotes
pub mod Joined
pub mod Positions
