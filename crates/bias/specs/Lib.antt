pub mod Bias
pub mod Opening
pub mod Ranges
pub mod Pairs
pub mod Opened
