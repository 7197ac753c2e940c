-- The theorems of the crate.
pub mod Marked
pub mod OneRow
