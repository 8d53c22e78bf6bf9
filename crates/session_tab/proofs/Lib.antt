mod Examples
pub mod IdLists
pub mod SlotFacts
