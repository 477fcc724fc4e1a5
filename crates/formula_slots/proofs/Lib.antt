pub mod Files
pub mod Places
pub mod Stands
