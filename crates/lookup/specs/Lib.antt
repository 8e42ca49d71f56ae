pub mod Lookup
pub mod Steps
