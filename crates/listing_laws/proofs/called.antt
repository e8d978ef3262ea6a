-- Lemmas on the calls of a listing.
pub mod AcceptedTypes
pub mod Calls
pub mod Chains
pub mod Fitting
pub mod HandedOn
pub mod Listed
pub mod Names
pub mod Owned
pub mod Passed
pub mod Passings
pub mod Sources
pub mod Steps
