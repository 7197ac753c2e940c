-- The laws of the crate: records as numbers, and the invariants of its passes over the eight watches.
pub mod RecordNumbers
pub mod Counting
pub mod Judging
pub mod Inserting
pub mod Removing
pub mod Vacancy
