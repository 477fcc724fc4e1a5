pub mod Tables
pub mod Columns
pub mod Passes
pub mod Answers
pub mod Agreement
