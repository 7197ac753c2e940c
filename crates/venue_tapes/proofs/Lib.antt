-- The laws of the crate.
pub mod Glimpses
pub mod Pairs
pub mod Local
