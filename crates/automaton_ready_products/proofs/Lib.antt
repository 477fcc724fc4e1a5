pub mod Digits
pub mod Ready
pub mod Table
