pub mod Laying
pub mod Calling
