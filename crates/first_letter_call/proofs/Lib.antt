pub mod Elements
pub mod Files
pub mod Rules
pub mod Calling
