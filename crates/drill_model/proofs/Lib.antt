-- The theory of the crate.
pub mod Below
pub mod Hands
pub mod Judged
pub mod Turned
pub mod Choosing
pub mod Places
pub mod Unlaid
pub mod LaidLists
pub mod Drilled
