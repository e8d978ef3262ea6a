pub mod Stacks
mod BlockLemmas
mod BoundLemmas
mod Causes
mod Room
mod Histories
mod CallLemmas
mod CertificateLemmas
mod HoldLemmas
mod CheckLemmas
mod RankLemmas
mod DeepestLemmas
mod ChainLemmas
pub mod MarkLemmas
mod OnChainLemmas
mod OrderLemmas
pub mod TextLemmas
mod WalkLemmas
pub mod PlaceLemmas
