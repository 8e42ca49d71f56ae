pub mod StepLaws
pub mod RunLaws
pub mod Plain
