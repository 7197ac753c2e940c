-- The laws of the crate: the records, and the steps of the loops over them.
pub mod Records
pub mod Copying
