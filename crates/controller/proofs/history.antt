-- Lemmas on the history that the controller keeps.
pub mod BlockLemmas
pub mod SilentLemmas
pub mod ReplayLemmas
