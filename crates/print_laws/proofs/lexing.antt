-- Lemmas on the tokens of printed trees.
pub mod Declarations
pub mod Fronts
pub mod Hashed
pub mod Marks
pub mod Numerals
pub mod Operands
pub mod Pieces
pub mod Statements
pub mod Trees
pub mod Words
