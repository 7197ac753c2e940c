-- The definitions of the crate.
pub mod Sheet
pub mod Finding
