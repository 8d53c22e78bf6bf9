pub mod Rows
pub mod Agreement
pub mod Shares
pub mod Parts
pub mod Calls
pub mod Answers
pub mod Steps
