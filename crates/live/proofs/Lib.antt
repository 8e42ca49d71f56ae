pub mod CallLaws
pub mod StateRuns
pub mod Plain
