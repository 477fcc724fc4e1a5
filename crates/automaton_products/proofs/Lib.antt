pub mod Rows
pub mod Entries
pub mod Products
