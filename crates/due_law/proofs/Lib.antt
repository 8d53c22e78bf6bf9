pub mod Lists
pub mod Downs
pub mod Dued
pub mod Quiet
pub mod QuietSteps
pub mod Taking
pub mod AllOwn
pub mod Undue
pub mod Settles
pub mod Comes
pub mod Law
pub mod DueFacts
pub mod Stages
pub mod Finds
pub mod RunDues
pub mod RunFinds
mod Examples
