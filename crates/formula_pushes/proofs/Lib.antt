pub mod Pushed
pub mod Copying
