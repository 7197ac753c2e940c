-- The laws of the crate.
pub mod Zeros
pub mod Seeking
pub mod Judging
pub mod Rules
pub mod Verdicts
