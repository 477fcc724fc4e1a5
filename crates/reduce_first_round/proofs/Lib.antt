pub mod OutcomeBytes
pub mod Comparing
pub mod BlockBytes
pub mod Products
pub mod Writing
