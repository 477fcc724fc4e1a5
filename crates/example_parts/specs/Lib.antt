pub mod Parts
pub mod Digits
