-- The definitions of the crate.
pub mod Marked
pub mod Places
