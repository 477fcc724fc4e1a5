pub mod Listing
pub mod Adding
pub mod Following
