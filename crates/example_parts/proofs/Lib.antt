pub mod Splitting
pub mod Digits
