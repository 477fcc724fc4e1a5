pub mod Filled
pub mod Stores
pub mod ReadBack
