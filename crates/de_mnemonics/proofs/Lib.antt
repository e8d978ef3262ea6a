pub mod CaseLemmas
pub mod LawLemmas
pub mod TableLemmas
pub mod TranslationLemmas
pub mod WordLemmas
