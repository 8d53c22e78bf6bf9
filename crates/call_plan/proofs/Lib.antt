pub mod GroupFacts
pub mod Refusals
