pub mod Automata
pub mod Matrices
pub mod Rule
pub mod RuleAutomaton
