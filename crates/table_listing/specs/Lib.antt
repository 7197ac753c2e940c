-- The definitions of the crate.
pub mod Picked
pub mod Joins
pub mod Due
pub mod Listed
