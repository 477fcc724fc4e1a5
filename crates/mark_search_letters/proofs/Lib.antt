pub mod Values
pub mod Taking
