pub mod CallLemmas
pub mod WalkLemmas
pub mod ContextLemmas
mod CalleeLemmas
