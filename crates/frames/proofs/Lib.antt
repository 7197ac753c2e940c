-- The laws of the crate.
pub mod FrameSizes
pub mod Reading
pub mod RoundTrips
pub mod ReadCases
pub mod ReadColumns
pub mod Moving
