pub mod Closure
pub mod Closing
