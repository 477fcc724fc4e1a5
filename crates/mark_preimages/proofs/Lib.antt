pub mod LastBelow
pub mod Letters
pub mod Listing
