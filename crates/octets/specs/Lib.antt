-- The definitions of the crate.
pub mod Bytes
pub mod Placed
