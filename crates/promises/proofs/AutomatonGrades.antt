-- The automaton of a rule for a least grade accepts exactly the lassos that the rule grades so or higher, weak rules included. Assumes nothing.
use Prim.Native.Nat.{ℕ, ◌≤◌}
use Rattle.theory.specs.Rules.{Morphism, Lawful, Marking}
use Rattle.theory.proofs.Gradings.{GradedMarks, level_linked}
use Rattle.buchi.proofs.RuleRuns.{rule_automaton_accepts}
use Rattle.promises.specs.RuleAutomaton.{AcceptsGrade}

pub grades_accepted : {m : Morphism} {marks : Marking} → Lawful m → GradedMarks m marks → (least : ℕ) → 1 ≤ least → AcceptsGrade m marks least
grades_accepted law good least low = rule_automaton_accepts law (level_linked law good low)
