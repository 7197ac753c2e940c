-- The laws of the crate.
pub mod Answers
pub mod Counting
pub mod Lists
pub mod Made
