pub mod Calling
