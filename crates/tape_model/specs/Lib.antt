-- The definitions of the crate.
pub mod Print
pub mod Play
pub mod Streams
pub mod Ample
pub mod InOne
pub mod Worked
