pub mod Numbers
pub mod Prepared
