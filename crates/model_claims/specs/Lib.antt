-- The definitions of the crate.
pub mod Places
pub mod Claims
pub mod Untorn
pub mod Shares
