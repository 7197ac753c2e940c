-- The definitions of the crate.
pub mod Shift
pub mod Feeding
pub mod Late
