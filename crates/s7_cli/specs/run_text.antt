pub mod Behind
pub mod RunText
