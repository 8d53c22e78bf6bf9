pub mod Keys
pub mod Steps
pub mod Worlds
pub mod Replies
pub mod Says
pub mod Entries
pub mod Runs
