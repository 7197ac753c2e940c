-- The definitions of the crate.
pub mod Dominance
pub mod Compared
pub mod Turned
pub mod Renewal
