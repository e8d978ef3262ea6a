pub mod FileLemmas
pub mod OutsideLemmas
