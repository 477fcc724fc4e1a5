pub mod Meeting
pub mod Searching
