-- The laws of the crate.
pub mod WriteCases
pub mod WriteColumns
