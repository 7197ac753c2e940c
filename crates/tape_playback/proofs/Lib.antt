-- The laws of the crate.
pub mod Advancing
pub mod Framing
pub mod Gathering
pub mod Starting
