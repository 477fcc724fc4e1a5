pub mod Staying
pub mod Numbers
pub mod Tests
pub mod Marks
pub mod Rows
