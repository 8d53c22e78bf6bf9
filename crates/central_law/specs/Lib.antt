pub mod Rest
pub mod Within
pub mod After
pub mod Fits
pub mod Tests
pub mod Steps
