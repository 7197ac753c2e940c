-- The laws of the crate.
pub mod Columns
pub mod Laws
pub mod Comparing
pub mod Turning
pub mod Renewal
