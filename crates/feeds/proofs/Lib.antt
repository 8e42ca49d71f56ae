pub mod FeedListLaws
pub mod FeedListRuns
pub mod Plain
