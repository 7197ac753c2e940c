-- The laws of the crate.
pub mod Numbers
pub mod Cells
pub mod Laying
