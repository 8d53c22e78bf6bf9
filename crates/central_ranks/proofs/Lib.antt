pub mod PartFacts
