pub mod Found
pub mod Names
pub mod Outcomes
pub mod Waiting
