pub mod Address
pub mod Fields
pub mod Laws
pub mod Line
pub mod Names
pub mod Numbers
pub mod Symbol
pub mod Symbols
