pub mod Indexed
pub mod Mail
pub mod Rows
