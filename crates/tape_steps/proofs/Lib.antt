-- The laws of the crate.
pub mod Finding
pub mod Stepping
