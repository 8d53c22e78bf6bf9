pub mod Lists
pub mod Threads
pub mod Runs
pub mod Rest
pub mod Quiet
pub mod Inside
pub mod Seen
pub mod Begun
pub mod Replied
pub mod Calls
pub mod Change
pub mod OneMore
pub mod Tests
pub mod Entries
mod Examples
