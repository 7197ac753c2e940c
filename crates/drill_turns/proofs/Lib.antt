-- The proofs of the crate.
pub mod Playing
pub mod Turning
pub mod LastList
pub mod Scans
