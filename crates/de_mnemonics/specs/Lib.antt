pub mod Back
pub mod Places
pub mod Tables
pub mod Translation
pub mod Words
