-- The laws of the crate.
pub mod Agrees
pub mod Streaming
pub mod Sliding
pub mod Changed
pub mod NeverShort
pub mod InOne
pub mod Worked
