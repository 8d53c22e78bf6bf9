pub mod Waits
pub mod Missing
pub mod Places
