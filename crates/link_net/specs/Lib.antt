pub mod Net
pub mod Queues
