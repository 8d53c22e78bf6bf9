pub mod Potential
pub mod Facts
