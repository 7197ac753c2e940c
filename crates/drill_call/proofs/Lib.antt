-- The proofs of the crate.
pub mod Judging
pub mod Placing
pub mod Answers
pub mod Theorems
