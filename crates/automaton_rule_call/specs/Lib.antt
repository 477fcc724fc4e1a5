pub mod ReadyTheorem
