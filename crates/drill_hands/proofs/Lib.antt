-- The proofs of the crate.
pub mod Handing
pub mod Lines
