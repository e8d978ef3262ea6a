-- The blocks of a listing break no rule as a whole, nor by their heads and declarations.
pub mod Bodies
pub mod Heads
pub mod Instances
pub mod Listings
pub mod Parameters
pub mod Sums
