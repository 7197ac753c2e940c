-- The laws of the crate.
pub mod Records
pub mod Passing
pub mod Stepping
pub mod Moving
pub mod Still
pub mod Leaving
pub mod Joining
pub mod Known
pub mod Watching
pub mod Distinct
pub mod Quoting
