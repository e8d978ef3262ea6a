-- Lemmas on a program that is compiled of statements.
pub mod Keeping
