pub mod Input
pub mod Reading
pub mod Commands
pub mod Jobs
pub mod Statuses
pub mod Stops
pub mod Outputs
