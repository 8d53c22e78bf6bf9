pub mod TreeFacts
pub mod FrontFacts
pub mod RowFacts
pub mod ShareFacts
