pub mod Openings
pub mod Turns
pub mod Closing
