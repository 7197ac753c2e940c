-- The theorems of the crate.
pub mod Shifting
pub mod Models
pub mod Feeding
pub mod Reading
pub mod Tables
pub mod Late
pub mod Worked
