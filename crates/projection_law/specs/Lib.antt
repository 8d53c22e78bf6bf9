pub mod Events
pub mod Premises
pub mod KnownNames
pub mod Facts
