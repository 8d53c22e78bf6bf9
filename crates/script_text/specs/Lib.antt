pub mod Tokens
pub mod Spelling
pub mod Faults
pub mod Reads
pub mod Writes
