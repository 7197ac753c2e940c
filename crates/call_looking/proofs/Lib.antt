-- The laws of the crate.
pub mod Listing
pub mod DueLooks
