pub mod Rule
pub mod Reading
pub mod Ranges
pub mod Steps
pub mod Equations
