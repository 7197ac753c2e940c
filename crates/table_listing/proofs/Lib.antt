-- The laws of the crate.
pub mod UntornLists
pub mod Picking
pub mod Writing
pub mod Framing
pub mod Windows
pub mod Listing
pub mod Joins
pub mod DueRows
