-- The laws of the crate.
pub mod Quotes
pub mod Reaching
pub mod Behind
pub mod Entries
