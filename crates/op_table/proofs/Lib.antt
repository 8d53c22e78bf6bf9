pub mod WordFacts
mod Examples
