pub mod PastSummaries
pub mod Lengths
pub mod SceneLaws
pub mod Plain
pub mod SummaryLaws
pub mod Bytes
pub mod Deliveries
