pub mod Reach
pub mod Steps
pub mod Searching
