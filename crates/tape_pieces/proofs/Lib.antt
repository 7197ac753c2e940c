-- The laws of the crate.
pub mod Playing
pub mod Printing
pub mod Running
