pub mod NumberLemmas
pub mod PartLemmas
pub mod RequestLemmas
pub mod RunLemmas
pub mod ValidLemmas
pub mod WordLemmas
