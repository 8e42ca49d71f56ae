pub mod Parts
pub mod Refusals
pub mod Feeding
pub mod Steps
