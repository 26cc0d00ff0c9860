pub mod Feeds
pub mod Lanes
