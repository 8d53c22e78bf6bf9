pub mod ShareKept
pub mod Foreign
pub mod ShareLaw
pub mod Exchanges
pub mod ShareFacts
pub mod OwnShares
