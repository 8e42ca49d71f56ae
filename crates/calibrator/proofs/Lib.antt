pub mod Verdicts
pub mod AcceptedLaws
pub mod StepLaws
pub mod SoundLaws
pub mod Plain
