pub mod Ranges
pub mod Exact
pub mod Delivered
pub mod Rises
pub mod Placed
pub mod Distance
pub mod BiasRange
pub mod BiasDistance
pub mod Equations
pub mod Channels
mod Bracket
mod Numerator
