pub mod Text
pub mod Feeds
pub mod Steps
pub mod Ranges
