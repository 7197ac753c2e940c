-- The laws of the crate.
pub mod Steps
pub mod Scanning
pub mod Invalid
pub mod Spelled
pub mod Unspelled
pub mod Counted
