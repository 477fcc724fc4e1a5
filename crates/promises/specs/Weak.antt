-- The check for calls that ask for a strong rule. Document 01, "Order of the checks", 12. Assumes nothing.
use Rattle.std.specs.Prelude.{ℕ, ◌≡◌, List}
use Rattle.answer.specs.declared.Refusal.TheVariants.{NotStrong}
use Rattle.answer.specs.Checks.{Check}
use Rattle.theory.specs.Grades.{StrongMarking}
use Rattle.formats.specs.RuleFile.{morphism_of, marking_of}

-- 12 "reduction, complement or follower's verdict of a rule not strong", and of every later request that asks for a strong rule; place 0
pub record WeakAt (bytes : List ℕ) (place : ℕ) : Type 0 where
  pub weak : StrongMarking (morphism_of bytes) (marking_of bytes) → ⊥
  pub is_place : place ≡ 0

-- of the rule that is the input of the given number
abbrev pub weak_check : ℕ → List ℕ → Check
weak_check input bytes = record { refusal = NotStrong; input = input; Fails = WeakAt bytes }
