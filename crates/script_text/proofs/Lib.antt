pub mod Tokens
mod Words
pub mod Laws
mod Casts
pub mod Ops
pub mod Walks
pub mod Spelled
mod Blanks
