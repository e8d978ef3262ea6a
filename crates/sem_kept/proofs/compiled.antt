-- Lemmas on code that is generated of statements.
pub mod Following
pub mod Instructions
pub mod Reading
pub mod Runs
pub mod Verified
