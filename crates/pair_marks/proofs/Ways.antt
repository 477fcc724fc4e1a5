-- The ways through the code for the mark of two places. Assumes nothing.
use Prim.Native.Nat.{ℕ}
use mathlib.Core.Path.{◌≡◌, refl}
use mathlib.Core.Bool.{Bool, true, false, not}
use mathlib.Core.List.{List}
use Rattle.promises.specs.declared.Operation.{Operation}
use Rattle.rule_marks.specs.Faults.{LinkedAnswer}
use Rattle.rule_marks.proofs.MarkOrder.{said_linked, said_unlinked}
use Rattle.rule_laid.specs.Laid.{laid_table}
use Rattle.pair_marks.specs.Marks.{pair_grade, PairMark}

module _ {operation : Operation} {count : ℕ} {scratch : List ℕ} {i j : ℕ} (linked : Bool) (l : LinkedAnswer (laid_table scratch count) i j linked) where
  -- two places that are not linked have the mark 0
  pub mark_unlinked : not linked ≡ true → PairMark operation count scratch i j 0
  mark_unlinked g = record { of_linked = λ k. absurd (said_unlinked _ i j linked l g k); of_others = λ f. refl }

  -- others have the combined grade
  pub mark_linked : {byte : ℕ} → not linked ≡ false → byte ≡ pair_grade operation scratch i j → PairMark operation count scratch i j byte
  mark_linked g q = record { of_linked = λ k. q; of_others = λ f. absurd (f (said_linked _ i j linked l g)) }
