-- The laws of the crate.
pub mod Wishes
pub mod Places
pub mod Reading
