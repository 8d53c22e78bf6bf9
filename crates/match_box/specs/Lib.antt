pub mod Boxes
pub mod Filing
pub mod Nodes
pub mod Rows
pub mod Tallies
