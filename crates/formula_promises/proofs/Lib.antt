pub mod OneFormula
pub mod EqualFormulas
pub mod Examples
