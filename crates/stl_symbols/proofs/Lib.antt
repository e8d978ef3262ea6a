pub mod AddressLemmas
pub mod FieldLemmas
pub mod FileLemmas
pub mod FoundLemmas
pub mod NameLemmas
pub mod NumberLemmas
pub mod ReadingLemmas
pub mod SymbolLemmas
