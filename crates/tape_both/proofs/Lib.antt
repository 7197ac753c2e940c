-- The laws of the crate.
pub mod Lines
pub mod Trying
