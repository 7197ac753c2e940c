-- The definitions of the crate.
pub mod Sought
pub mod Kinds
pub mod Held
pub mod Watches
pub mod Frames
