-- The laws of the crate.
pub mod Clearing
pub mod Pasting
pub mod Shifting
pub mod Renaming
pub mod Settling
pub mod Marking
pub mod Reading
pub mod Passing
pub mod Torn
