pub mod Outlines
pub mod NestedLemmas
