pub mod Draws
pub mod History
pub mod Source
