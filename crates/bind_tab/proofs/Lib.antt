pub mod RowFacts
pub mod SerialFacts
