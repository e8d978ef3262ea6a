pub mod Division
pub mod Products
pub mod Rotations
