-- The laws of the crate.
pub mod Decoding
pub mod Printing
