pub mod BoardTheorem
