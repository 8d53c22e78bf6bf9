pub mod Lines
pub mod Examples
pub mod Drained
pub mod Never
