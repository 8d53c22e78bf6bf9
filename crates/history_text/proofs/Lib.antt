pub mod Joined
pub mod Operations
pub mod Whole
pub mod Unique
pub mod Found
pub mod Plain
pub mod PlainEntries
pub mod Journals
