-- The laws of the crate.
pub mod Reading
pub mod Spelled
