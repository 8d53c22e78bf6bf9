mod Examples
pub mod NetFacts
mod QueueFacts
pub mod SeenFacts
