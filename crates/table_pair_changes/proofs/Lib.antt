-- The laws of the crate.
pub mod PairMoves
pub mod Seeking
pub mod Sliding
pub mod Pairs
