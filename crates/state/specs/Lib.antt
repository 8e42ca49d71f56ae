pub mod State
pub mod Steps
