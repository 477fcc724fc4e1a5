pub mod Formed
pub mod FirstLetter
pub mod Next
pub mod Until
pub mod OneAnswers
