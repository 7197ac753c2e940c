-- The laws of the crate.
pub mod Answers
pub mod ByKinds
