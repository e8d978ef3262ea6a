pub mod HexLemmas
pub mod PartLemmas
