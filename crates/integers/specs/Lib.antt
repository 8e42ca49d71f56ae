pub mod Rounding
pub mod Bounds
pub mod NearestEven
pub mod Fractions
