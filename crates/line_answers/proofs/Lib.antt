-- The laws of the crate.
pub mod Behind
pub mod Turning
pub mod InOne
