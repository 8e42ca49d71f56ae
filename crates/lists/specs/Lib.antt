pub mod Build
pub mod Count
pub mod Sum
pub mod Tests
pub mod All
