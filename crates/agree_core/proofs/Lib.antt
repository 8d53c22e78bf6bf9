pub mod MoveFacts
pub mod ClassFacts
pub mod ShareMoves
