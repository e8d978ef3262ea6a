pub mod DecimalLemmas
pub mod BcdLemmas
pub mod RoundTrips
pub mod GatheredLemmas
pub mod LeastLemmas
pub mod LineLemmas
pub mod ListLemmas
pub mod TruthLemmas
