pub mod Lassos
