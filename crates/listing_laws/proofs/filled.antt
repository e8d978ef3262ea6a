-- The instances of function blocks have their bytes again.
pub mod Reached
pub mod Behind
pub mod Components
pub mod Params
pub mod Values
pub mod Walks
pub mod Settings
pub mod Origins
pub mod Instances
pub mod Listed
pub mod Rules
pub mod DataBlocks
