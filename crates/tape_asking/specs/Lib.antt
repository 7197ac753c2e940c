-- The definitions of the crate.
pub mod Asking
pub mod Placing
pub mod Reading
