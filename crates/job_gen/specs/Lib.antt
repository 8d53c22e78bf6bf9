pub mod Draws
pub mod Parts
pub mod Adding
pub mod Words
