-- Lemmas on the listing of an accepted source's program: its parameters, its calls and its statements.
pub mod Blocks
pub mod Bodies
pub mod Callees
pub mod Calls
pub mod Cells
pub mod Own
pub mod Parameters
pub mod Passed
pub mod Right
pub mod Splits
pub mod Types
