-- The laws of the crate.
pub mod Sought
pub mod Reading
pub mod Numbers
pub mod Standing
pub mod Blanks
pub mod Findings
pub mod Putting
pub mod Settled
pub mod Reaching
