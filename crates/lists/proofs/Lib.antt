-- The laws of the crate.
pub mod Booleans
pub mod Filters
pub mod Members
pub mod Runs
pub mod Cells
pub mod Rising
pub mod Writing
pub mod Laying
pub mod Growing
pub mod Storing
pub mod Apart
pub mod Places
