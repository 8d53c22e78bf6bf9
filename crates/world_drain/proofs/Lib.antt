pub mod Found
pub mod Going
pub mod Offers
pub mod Ranks
pub mod Searched
mod Short
