-- The definitions of the crate.
pub mod Answers
pub mod Known
pub mod Entered
