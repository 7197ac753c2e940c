-- The definitions of the crate, in reading order.
pub mod Rows
pub mod Changes
pub mod Shares
pub mod Reference
pub mod Book
pub mod Calls
pub mod Promises
