pub mod Skips
pub mod Grades
