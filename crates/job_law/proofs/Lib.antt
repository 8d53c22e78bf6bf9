pub mod Sets
pub mod Scripts
