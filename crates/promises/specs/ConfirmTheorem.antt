-- The theorem on reductions made elsewhere. Document 02, Job 13: where both files pass and the first is strong, `confirm` says yes exactly if the bytes
-- reduce the first to the second; "what it writes", our reducer, "gets yes"; and what gets no. Assumes nothing.
use Rattle.std.specs.Prelude.{ℕ, ◌≤◌, ◌<◌, ◌≡◌, List, length, get_or}
use Rattle.answer.specs.Checks.{passed, FirstFailure}
use Rattle.theory.specs.Rules.{Lawful}
use Rattle.theory.specs.Grades.{StrongMarking}
use Rattle.theory.specs.Smallest.{SameGrades, Renumbered}
use Rattle.formats.specs.RuleFile.{elements_of, letters_of, morphism_of, marking_of}
use Rattle.formats.specs.RuleChecks.{rule_checks, scratch_size}
use Rattle.formats.specs.Front.{AtFront}
use Rattle.promises.specs.declared.Written.TheVariants.{Rule as Is-rule}
use Rattle.promises.specs.declared.Confirmation.{Confirmation}
use Rattle.promises.specs.declared.Confirmation.TheVariants.{Yes, No}
use Rattle.promises.specs.Reduce.{rule_of, ReducedTo, ReducePromise}
use Rattle.promises.specs.Confirm.{ReducesBy, ConfirmPromise}

-- both files pass, the first rule is strong, and scratch is long enough
pub record Judged (first second entry : List ℕ) : Type 0 where
  pub room : scratch_size ≤ length entry
  pub first_passes : FirstFailure (rule_checks 1 first) passed
  pub second_passes : FirstFailure (rule_checks 2 second) passed
  pub first_strong : StrongMarking (morphism_of first) (marking_of first)

pub record ConfirmTheorem : Type 0 where
  pub right : (first second map entry exit : List ℕ) → Judged first second entry → ReducesBy first second map
      → (answer : Confirmation) → ConfirmPromise first second map entry exit answer → answer ≡ Yes
  pub wrong : (first second map entry exit : List ℕ) → Judged first second entry → ¬ ReducesBy first second map
      → (answer : Confirmation) → ConfirmPromise first second map entry exit answer → answer ≡ No
  -- what `reduce` writes, with its map
  pub own : (bytes out out' map map' entry exit file moved entry' exit' : List ℕ) (end : ℕ) → ReducePromise bytes out out' map map' entry exit (Is-rule end)
      → AtFront file out out' end → AtFront moved map map' (elements_of bytes) → scratch_size ≤ length entry'
      → (answer : Confirmation) → ConfirmPromise bytes file moved entry' exit' answer → answer ≡ Yes
  -- any numbering of it, and any marks that keep the grades
  pub renumbered : (bytes out out' map map' : List ℕ) (end : ℕ) (a : ReducedTo bytes out out' map map' end) (second moved : List ℕ) (law : Lawful (morphism_of second))
      → StrongMarking (morphism_of second) (marking_of second) → SameGrades (rule_of bytes a.lawful) (rule_of second law)
      → (to : Renumbered a.reduced.morphism (morphism_of second)) → length moved ≡ elements_of bytes
      → ((s : ℕ) → s < elements_of bytes → get_or moved s 0 ≡ to.to (get_or a.map s 0)) → ReducesBy bytes second moved
  -- "A map of another length or with a foreign number gets no, as do differing letter counts"; so does a weak second rule
  pub other_length : (first second map : List ℕ) → ¬ (length map ≡ elements_of first) → ¬ ReducesBy first second map
  pub foreign_number : (first second map : List ℕ) (s : ℕ) → s < elements_of first → elements_of second ≤ get_or map s 0 → ¬ ReducesBy first second map
  pub other_letters : (first second map : List ℕ) → ¬ (letters_of first ≡ letters_of second) → ¬ ReducesBy first second map
  pub weak_second : (first second map : List ℕ) → ¬ StrongMarking (morphism_of second) (marking_of second) → ¬ ReducesBy first second map
