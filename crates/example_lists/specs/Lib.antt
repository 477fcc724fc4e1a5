pub mod Lists
pub mod Storing
