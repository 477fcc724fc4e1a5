pub mod Elements
pub mod Writing
