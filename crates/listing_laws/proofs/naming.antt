-- The program of an accepted source is named as in a source.
pub mod Symbols
pub mod Read
pub mod Trees
pub mod Places
pub mod Coded
pub mod Bits
pub mod Programs
