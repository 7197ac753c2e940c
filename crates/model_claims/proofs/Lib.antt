-- The theorems of the crate.
pub mod Places
pub mod Kept
pub mod Stretches
pub mod Due
pub mod Refining
pub mod Previews
pub mod InOne
pub mod Shares
pub mod Untorn
pub mod UntornDue
pub mod GivenBack
