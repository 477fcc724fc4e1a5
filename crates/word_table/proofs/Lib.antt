pub mod Numbers
pub mod Staying
pub mod Rows
pub mod Tables
