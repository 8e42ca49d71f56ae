pub mod FeedList
