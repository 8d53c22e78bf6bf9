pub mod Facts
pub mod TakenPackets
pub mod Keys
