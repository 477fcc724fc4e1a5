pub mod Bytes
pub mod Map
pub mod Preimages
pub mod Rows
