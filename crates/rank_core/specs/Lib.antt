pub mod Packets
pub mod Verdicts
pub mod Openings
pub mod Held
pub mod Calling
pub mod Next
pub mod Candidates
