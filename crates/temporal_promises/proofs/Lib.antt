pub mod OneFormed
pub mod OneFirstLetter
pub mod OneNext
pub mod OneUntil
pub mod OneAnswers
pub mod NextOrder
pub mod UntilOrder
