pub mod lexing
mod parsing
