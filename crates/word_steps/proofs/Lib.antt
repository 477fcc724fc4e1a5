pub mod Recording
pub mod Words
pub mod Searching
