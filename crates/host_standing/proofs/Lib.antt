-- The laws of the crate.
pub mod Standings
pub mod Refusals
