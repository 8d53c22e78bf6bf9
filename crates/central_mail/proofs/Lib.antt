mod Indexed
mod Kept
pub mod Registries
mod Walks
