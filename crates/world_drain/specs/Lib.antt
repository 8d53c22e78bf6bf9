pub mod Drains
pub mod Searches
