-- The laws of the crate.
pub mod Digits
pub mod Lines
pub mod Short
