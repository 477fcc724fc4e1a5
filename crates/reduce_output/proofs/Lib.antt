pub mod Order
pub mod Writing
