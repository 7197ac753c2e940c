-- The definitions of the crate.
pub mod Blank
pub mod Findings
pub mod Settled
