-- The definitions of the crate.
pub mod Looks
pub mod Made
