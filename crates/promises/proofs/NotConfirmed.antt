-- What is no right reduction: "A map of another length or with a foreign number gets no, as do differing letter counts" (document 02, Job 13), and
-- so does a weak second rule. Assumes nothing.
use Prim.Native.Nat.{ℕ, ◌≤◌, ◌<◌}
use mathlib.Core.Path.{◌≡◌}
use mathlib.Core.List.{List}
use native.Mathlib.Omega.{arith}
use lib.ListN.{length, get_or}
use Rattle.theory.specs.Grades.{StrongMarking}
use Rattle.formats.specs.RuleFile.{elements_of, letters_of, morphism_of, marking_of}
use Rattle.promises.specs.Confirm.{ReducesBy}

module _ {first second map : List ℕ} where
  pub other_length : ¬ (length map ≡ elements_of first) → ¬ ReducesBy first second map
  other_length f p = f p.length_is

  pub foreign_number : {s : ℕ} → s < elements_of first → elements_of second ≤ get_or map s 0 → ¬ ReducesBy first second map
  foreign_number {s} h foreign p = omega (arith, p.reduced.maps.inside s h)

  pub other_letters : ¬ (letters_of first ≡ letters_of second) → ¬ ReducesBy first second map
  other_letters f p = f p.reduced.same.same_letters

  pub second_not_strong : ¬ StrongMarking (morphism_of second) (marking_of second) → ¬ ReducesBy first second map
  second_not_strong f p = f p.reduced.smallest.strong
