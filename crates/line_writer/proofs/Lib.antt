-- The laws of the crate.
pub mod Laying
pub mod Refilling
pub mod Lines
pub mod Writing
