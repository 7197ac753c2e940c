-- The theorems of the crate.
pub mod Applying
pub mod ReadBack
pub mod Following
pub mod Watcher
