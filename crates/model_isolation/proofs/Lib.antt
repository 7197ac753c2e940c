-- The theorems of the crate.
pub mod Alone
pub mod Isolated
pub mod Singly
