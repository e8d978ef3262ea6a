-- What the listed declarations of a code block come to.
pub mod Apart
pub mod Cells
pub mod Sections
pub mod Sources
pub mod Groups
pub mod Placed
pub mod Kept
pub mod Locals
pub mod Blocks
pub mod Chains
pub mod Links
pub mod Own
pub mod OwnData
pub mod OwnKept
pub mod Right
