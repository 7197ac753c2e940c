-- The definitions of the crate.
pub mod Frames
pub mod Messages
pub mod Moved
