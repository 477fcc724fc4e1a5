-- What stands on the stack of a formula: its top, what is below it, and what is kept where slots are. Assumes nothing.
use Prim.Native.Nat.{ℕ, zero, suc, ◌-◌, ◌<◌}
use mathlib.Core.Path.{◌≡◌, sym, subst}
use mathlib.Core.List.{List, [], ◌∷◌}
use native.Mathlib.Omega.{arith}
use lib.ListN.{length}
use Rattle.temporal.specs.Formulas.{Formula}
use Rattle.board_promises.specs.Boards.{file_at}
use Rattle.formula_promises.specs.Operations.{below}
use Rattle.formula_slots.specs.Slots.{ReductionFile, Standing, none_stands, one_more}

module _ {letters : ℕ} {stack : List ℕ} where
  pub standing_top : {f : Formula} {rest : List Formula} → Standing letters stack (f ∷ rest) → ReductionFile letters f (file_at stack (length rest))
  standing_top (one_more file more) = file

  pub standing_rest : {f : Formula} {rest : List Formula} → Standing letters stack (f ∷ rest) → Standing letters stack rest
  standing_rest (one_more file more) = more

  -- where the slots of the formulas are kept
  pub standing_kept : {exit : List ℕ} (list : List Formula) → ((i : ℕ) → i < length list → file_at exit i ≡ file_at stack i) → Standing letters stack list → Standing letters exit list
  standing_kept [] kept s = none_stands
  standing_kept (f ∷ rest) kept s =
      one_more (subst (ReductionFile letters f) (sym (kept (length rest) (omega arith))) (standing_top s)) (standing_kept rest (λ i h. kept i (omega arith)) (standing_rest s))

  -- the formula so far below the top
  pub standing_below : (d : ℕ) (list : List Formula) → d < length list → Standing letters stack list → ReductionFile letters (below d list) (file_at stack (length list - 1 - d))
  unfolding below
  standing_below d [] h s = absurd (let z : ⊥ = omega arith in z)
  standing_below zero (f ∷ rest) h s =
      subst (λ (i : ℕ). ReductionFile letters f (file_at stack i)) (let z : length rest ≡ length (f ∷ rest) - 1 - 0 = omega arith in z) (standing_top s)
  standing_below (suc d) (f ∷ rest) h s =
      subst (λ (i : ℕ). ReductionFile letters (below d rest) (file_at stack i)) (let z : length rest - 1 - d ≡ length (f ∷ rest) - 1 - suc d = omega arith in z)
      (standing_below d rest (omega arith) (standing_rest s))
