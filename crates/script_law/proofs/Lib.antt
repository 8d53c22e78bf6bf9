pub mod Counts
pub mod Steps
pub mod Scripts
pub mod Runs
pub mod Laws
