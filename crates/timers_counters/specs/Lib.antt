pub mod Counter
pub mod ByNumber
pub mod Restart
pub mod Sizes
pub mod Timer
pub mod Views
