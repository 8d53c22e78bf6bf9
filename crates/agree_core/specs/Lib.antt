pub mod Held
pub mod Mates
