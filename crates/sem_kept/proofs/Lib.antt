mod ReachedLemmas
pub mod RunLemmas
mod SourceLemmas
mod StageLemmas
mod Suspended
pub mod accepted
mod compiled
mod kept
