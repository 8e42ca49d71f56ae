pub mod Settings
pub mod Ranges
pub mod Opening
pub mod ValueRanges
pub mod Opened
