-- What the blocks of a listing were made of, and what they come to.
pub mod CodeBlocks
pub mod Compiled
pub mod Found
pub mod Listings
pub mod Origins
pub mod Refusals
pub mod Sorting
