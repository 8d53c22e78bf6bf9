pub mod Forms
pub mod Reading
pub mod Numbers
pub mod Texts
pub mod Lists
pub mod Words
pub mod Steps
