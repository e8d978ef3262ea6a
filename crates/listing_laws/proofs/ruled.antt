-- The statements of a listing break no rule, and do what those of the source do.
pub mod Bodies
pub mod Calling
pub mod Constants
pub mod Instructions
pub mod Labels
pub mod Marks
pub mod Nesting
pub mod Operands
pub mod Parameters
pub mod Reached
pub mod Rules
pub mod Views
pub mod Within
