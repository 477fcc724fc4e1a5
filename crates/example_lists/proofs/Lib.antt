pub mod Storing
pub mod Listing
pub mod AllWords
pub mod Readings
pub mod Turns
