pub mod ExclusiveOr
pub mod StatusNumberLaws
