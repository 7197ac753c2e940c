-- The laws of the crate.
pub mod Comparisons
pub mod Blocks
pub mod Looping
pub mod Youngest
pub mod Passing
pub mod Idling
pub mod Going
