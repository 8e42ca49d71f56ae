pub mod Bench
pub mod Witnesses
pub mod Refusals
pub mod Boundaries
