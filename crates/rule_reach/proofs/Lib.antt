pub mod Order
pub mod Steps
pub mod Bytes
pub mod Laws
pub mod Without
pub mod Words
