pub mod PrefixLemmas
pub mod AppendLemmas
pub mod ViewLemmas
