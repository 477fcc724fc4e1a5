pub mod Marks
pub mod Laid
