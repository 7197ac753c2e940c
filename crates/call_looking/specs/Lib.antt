-- The definitions of the crate.
pub mod Shown
pub mod Due
