pub mod LastScan
pub mod Ranges
pub mod Numbers
