pub mod ErrorCodes
pub mod Results
pub mod Disabling
pub mod Functions
