-- The theorem on equal print. Document 02, Job 8: for two strong rules "the reduced files are equal byte for byte exactly if the rules accept the same
-- lassos", each with its grade; what is strong is printed; and "reducing a reduced file returns it". Assumes nothing.
use Rattle.std.specs.Prelude.{ℕ, ◌≤◌, ◌≡◌, ◌↔◌, List, length}
use Rattle.answer.specs.Checks.{passed, FirstFailure}
use Rattle.theory.specs.Rules.{Lawful}
use Rattle.theory.specs.Grades.{StrongMarking}
use Rattle.theory.specs.Smallest.{SameGrades}
use Rattle.formats.specs.RuleFile.{morphism_of, marking_of}
use Rattle.formats.specs.RuleChecks.{rule_checks, rule_size, scratch_size}
use Rattle.formats.specs.Front.{AtFront}
use Rattle.promises.specs.declared.Written.{Written}
use Rattle.promises.specs.declared.Written.TheVariants.{Rule as Is-rule}
use Rattle.promises.specs.Reduce.{map_size, rule_of, ReducePromise}
use Rattle.promises.specs.Printed.{Prints, Printed}

pub record PrintTheorem : Type 0 where
  pub equal : (bytes bytes' file file' : List ℕ) → Prints bytes file → Prints bytes' file' → (law : Lawful (morphism_of bytes)) (law' : Lawful (morphism_of bytes'))
      → (file ≡ file') ↔ SameGrades (rule_of bytes law) (rule_of bytes' law')
  -- of a strong rule that passes the checks, with buffers that are long enough, whatever answer the promise allows
  pub printed : (bytes : List ℕ) → FirstFailure (rule_checks 1 bytes) passed → StrongMarking (morphism_of bytes) (marking_of bytes)
      → (out out' map map' entry exit : List ℕ) → rule_size ≤ length out → map_size ≤ length map → scratch_size ≤ length entry
      → (answer : Written) → ReducePromise bytes out out' map map' entry exit answer → Printed bytes out out' answer
  pub again : (bytes file : List ℕ) → Prints bytes file → (out out' map map' entry exit : List ℕ) → rule_size ≤ length out → map_size ≤ length map
      → scratch_size ≤ length entry → (answer : Written) → ReducePromise file out out' map map' entry exit answer
      → (answer ≡ Is-rule (length file)) × AtFront file out out' (length file)
