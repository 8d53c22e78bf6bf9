pub mod Counts
pub mod InMemory
pub mod Source
pub mod Sink
pub mod States
