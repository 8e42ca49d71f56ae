pub mod Temperature
pub mod Scene
pub mod Channel
pub mod BeforeBias
pub mod Unrounded
pub mod Ranges
pub mod Steps
