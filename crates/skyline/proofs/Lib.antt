-- The theory of the crate.
pub mod Free
pub mod Ends
pub mod Past
pub mod Sought
pub mod Moved
pub mod Shifted
pub mod Due
pub mod Halves
