pub mod Interpolation
pub mod Steps
