-- The laws of the crate.
pub mod Watches
pub mod Pairs
