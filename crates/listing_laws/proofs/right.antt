-- The bodies of a listing break no rule.
pub mod Bodies
pub mod Instances
pub mod Named
pub mod Numbered
pub mod Placed
pub mod Statements
pub mod Trees
pub mod Words
