pub mod Milliseconds
pub mod SizeLemmas
