-- The definitions of the crate.
pub mod Heads
pub mod Desks
pub mod Replies
