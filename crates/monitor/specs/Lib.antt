pub mod Diagnostics
pub mod LineText
