-- The laws and theorems of the crate.
pub mod LineLaws
pub mod Judging
pub mod Frames
pub mod Importing
pub mod Theorems
pub mod Cutting
pub mod Unique
pub mod Rows
