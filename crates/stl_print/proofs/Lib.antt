pub mod PieceLemmas
pub mod DigitLemmas
pub mod LineLemmas
