-- The theorems of the crate.
pub mod Plays
pub mod AuditTables
pub mod RightEnds
pub mod Rules
pub mod RulesToTape
pub mod Audit
pub mod Passing
