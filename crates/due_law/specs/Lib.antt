pub mod Dues
pub mod Facts
pub mod Agreed
pub mod Runs
