-- The definitions of the crate.
pub mod Imports
pub mod Reading
pub mod Lines
pub mod Spelling
