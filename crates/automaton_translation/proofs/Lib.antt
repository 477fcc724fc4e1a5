pub mod Laid
pub mod Reading
pub mod Order
pub mod Made
pub mod Making
