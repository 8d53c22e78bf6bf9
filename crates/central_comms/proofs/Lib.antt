pub mod CommFacts
pub mod PlaceFacts
mod RowFacts
