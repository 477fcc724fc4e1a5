pub mod MarkOrder
pub mod Laid
