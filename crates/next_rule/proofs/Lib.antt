pub mod Grades
pub mod Writing
