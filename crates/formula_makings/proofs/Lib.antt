pub mod Checked
pub mod Transfers
pub mod Rules
pub mod Refusals
pub mod Grades
pub mod Made
