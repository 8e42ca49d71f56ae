pub mod Scenes
pub mod Summary
pub mod Product
pub mod Ranges
pub mod Steps
