-- What the answer of `grade_of` says of the lasso, for a marking of linked pairs that stands in the lent bytes. Assumes nothing.
use Prim.Native.Nat.{ℕ, ◌≤◌}
use mathlib.Core.Path.{◌≡◌, sym, subst}
use mathlib.Core.Logic.{◌↔◌}
use mathlib.Core.List.{List}
use lib.Dec.{T}
use Rattle.theory.specs.Rules.{Lawful, Marking, level}
use Rattle.theory.specs.Grades.{AtLeast, Graded}
use Rattle.theory.proofs.Gradings.{GradedMarks, level_linked, graded_by}
use Rattle.theory.proofs.Membership.{accepts_test, accepts_test_intro, accepts_test_elim}
use Rattle.formats.proofs.Tables.{Table}
use Rattle.formats.specs.Table.{morphism_at}
use Rattle.scratch.specs.Map.{marks_from, MarkingAt}
use Rattle.scratch.proofs.Markings.{level_at}
use Rattle.lasso_cuts.specs.WordValues.{CallWord}
use Rattle.lasso_powers.specs.Raising.{Raised}
use Rattle.lasso_turns.proofs.Raises.{raised_exactly}
use Rattle.lasso_turns.proofs.Agreement.{accepts_test_agrees}

module _ {bytes : List ℕ} {n k : ℕ} {marks : Marking} {u v : List ℕ} (table : Table bytes n k) (law : Lawful (morphism_at bytes n k))
    (good : GradedMarks (morphism_at bytes n k) marks) (word-u : CallWord k u) (word-v : CallWord k v) where
  module _ (scratch : List ℕ) (stands : MarkingAt n marks scratch 0) {r : ℕ}
      (answer : Raised (λ g. accepts_test (morphism_at bytes n k) (level g (marks_from scratch 0)) u v) 0 r) where
    -- the test of membership with the marking passes up to the answer
    passes : (g : ℕ) → 1 ≤ g → AtLeast (morphism_at bytes n k) marks g u v ↔ (g ≤ r)
    passes g some =
        let same : accepts_test (morphism_at bytes n k) (level g marks) u v ≡ accepts_test (morphism_at bytes n k) (level g (marks_from scratch 0)) u v =
        accepts_test_agrees law (record { same = λ s e hs he. level_at g stands hs he }) word-u.over word-v.over in
        let exactly = raised_exactly answer g some in
        let linked = level_linked law good some in (
          λ a. exactly.0 (subst T same (accepts_test_intro law linked word-u.over word-v.over word-v.some a)),
          λ h. accepts_test_elim law linked word-u.over word-v.over word-v.some (subst T (sym same) (exactly.1 h)),
        )

    -- so it is the lasso's grade
    pub graded_told : Graded (morphism_at bytes n k) marks u v r
    graded_told = graded_by passes
