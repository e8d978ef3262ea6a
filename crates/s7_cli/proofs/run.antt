-- The text of a run: entries applied in a row, lists from a place on, and texts written by pieces.
pub mod EntryLemmas
pub mod ListLemmas
pub mod WritingLemmas
