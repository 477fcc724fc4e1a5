-- Powers of a word whose matrix is idempotent: they have its matrix, and behind a word whose matrix it does not change they
-- change nothing. With them the segments of the endless word of a lasso between its rounds. Assumes nothing.
use Prim.Native.Nat.{ℕ, zero, suc, ◌+◌, ◌*◌, ◌<◌}
use mathlib.Core.Path.{◌≡◌, sym, ap, subst, ◌∙◌}
use mathlib.Core.List.{List, ◌++◌, append-nil, append_assoc}
use native.Mathlib.Nat.{zero-add}
use lib.ListN.{length}
use Rattle.theory.specs.Words.{endless}
use Rattle.theory.proofs.Words.{seg, seg_append, repeat}
use Rattle.theory.proofs.Periods.{Periodic, seg_periodic_shift, seg_repeat, endless_periodic, endless_start, endless_cycle}
use Rattle.buchi.specs.Automata.{Automaton}
use Rattle.buchi.specs.Matrices.{Matrix, IsMatrix, SameEntries, product}
use Rattle.buchi.proofs.WordMatrices.{matrix_same, matrix_append}

module _ {a : Automaton} {y : List ℕ} {E : Matrix} (cycle : IsMatrix a y E) where
  -- a word whose matrix R has R-as-E = R, and c times y
  pub round_absorbs : {R : Matrix} → SameEntries a.states (product a.states R E) R → (c : ℕ) (x : List ℕ) → IsMatrix a x R → IsMatrix a (x ++ repeat c y) R
  unfolding repeat
  round_absorbs {R} stays zero x m = subst (λ w. IsMatrix a w R) (sym (append-nil x)) m
  round_absorbs {R} stays (suc c) x m =
      subst (λ w. IsMatrix a w R) (append_assoc x y (repeat c y)) (round_absorbs stays c (x ++ y) (matrix_same stays (matrix_append m cycle)))

  -- y one or more times, where E-as-E = E
  pub repeat_matrix : SameEntries a.states (product a.states E E) E → (c : ℕ) → IsMatrix a (repeat (suc c) y) E
  unfolding repeat
  repeat_matrix square c = round_absorbs square c y cycle

-- where the j-th round of y begins
abbrev pub round : List ℕ → List ℕ → ℕ → ℕ
round x y j = length x + j * length y

module _ (x y : List ℕ) (some : 0 < length y) where
  periodic : Periodic (endless x y) (length x) (length y)
  periodic = endless_periodic x y some

  rounds : (c : ℕ) → seg (endless x y) (length x) (c * length y) ≡ repeat c y
  rounds c = seg_repeat periodic c ∙ ap (repeat c) (endless_cycle x y some)

  -- before the j-th round stand x and j times y
  pub before_round : (j : ℕ) → seg (endless x y) 0 (round x y j) ≡ x ++ repeat j y
  before_round j = seg_append (endless x y) 0 (length x) (j * length y) ∙ rw (zero-add, endless_start x y, rounds j)

  -- c rounds from the j-th on are c times y
  pub from_round : (j c : ℕ) → seg (endless x y) (round x y j) (c * length y) ≡ repeat c y
  from_round j c = seg_periodic_shift periodic j (c * length y) ∙ rounds c
