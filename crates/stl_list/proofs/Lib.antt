pub mod RunLemmas
pub mod OrderLemmas
pub mod ChainLemmas
pub mod RangeLemmas
pub mod InitialLemmas
pub mod OperandLemmas
pub mod DeclaredLemmas
pub mod LengthLemmas
