pub mod Notices
pub mod Telling
pub mod EntryTelling
