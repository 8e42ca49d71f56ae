pub mod Steps
pub mod Sums
pub mod Means
pub mod Ages
pub mod Ranges
pub mod Props
