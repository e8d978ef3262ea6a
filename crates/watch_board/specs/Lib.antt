pub mod BoardList
pub mod ListRule
pub mod Views
