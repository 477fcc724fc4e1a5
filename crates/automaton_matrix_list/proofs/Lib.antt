pub mod Order
pub mod Words
pub mod Following
pub mod Letters
pub mod Multiplying
pub mod Closing
