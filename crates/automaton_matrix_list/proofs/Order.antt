-- The matrices of the list and what letters make of them while the list grows: a step's number stays its number, and what was found
-- keeps its source. Assumes nothing.
use Prim.Native.Nat.{ℕ, zero, suc, ◌≤◌, ◌<◌}
use mathlib.Core.List.{List}
use native.Mathlib.Omega.{arith}
use Rattle.finite.proofs.Explore.{sooner_le}
use Rattle.buchi.specs.Matrices.{Matrix, SameEntries}
use Rattle.buchi.proofs.Products.{product_same, same_trans, same_sym}
use Rattle.buchi.proofs.MatrixLists.{Among}
use Rattle.automaton_matrix_search.specs.Lists.{matrix_at, step_entry, StepNumber, StepMatrix}
use Rattle.automaton_matrix_search.specs.Steps.{Grown, FoundFrom}
use Rattle.automaton_matrix_search.proofs.Growing.{among_same, letter_grown}

-- a step's matrix is in the list
pub step_among : {kinds : List ℕ} {n count p x r : ℕ} {scratch : List ℕ} → StepNumber kinds n scratch count p x r → Among n count (matrix_at scratch) (step_entry kinds n scratch p x)
step_among {r = r} s = record { at = r; below = s.below; same = s.same }

module _ {n count total : ℕ} {entry exit : List ℕ} (g : Grown n entry count exit total) where
  -- one of the first is so still
  among_within : {j : ℕ} {M : Matrix} → j ≤ count → Among n j (matrix_at entry) M → Among n j (matrix_at exit) M
  among_within h a = let l = a.below in record { at = a.at; below = a.below; same = same_trans a.same (g.same a.at (omega arith)) }

  -- what a letter makes of an entry is as it was
  pub step_grown : (kinds : List ℕ) (p x : ℕ) → p ≤ count → x < 16 → SameEntries n (step_entry kinds n entry p x) (step_entry kinds n exit p x)
  unfolding step_entry
  step_grown kinds zero x h l = letter_grown g kinds x l
  step_grown kinds (suc i) x h l = product_same (g.same i (omega arith)) (letter_grown g kinds x l)

  -- it is one of the same matrices, and has the same number
  pub step_among_grown : (kinds : List ℕ) (p x : ℕ) {j : ℕ} → p ≤ count → x < 16 → j ≤ count → Among n j (matrix_at entry) (step_entry kinds n entry p x)
      → Among n j (matrix_at exit) (step_entry kinds n exit p x)
  step_among_grown kinds p x h l b a = among_same (step_grown kinds p x h l) (among_within b a)

  pub number_grown : {kinds : List ℕ} {p x r : ℕ} → p ≤ count → x < 16 → StepNumber kinds n entry count p x r → StepNumber kinds n exit total p x r
  number_grown {kinds} {p} {x} {r} h l s =
      let b = s.below in
      let m = g.more in
      record { below = omega arith; same = same_trans (same_sym (step_grown kinds p x h l)) (same_trans s.same (g.same r s.below)) }

  -- a matrix that a letter makes of an entry is made so still, and one that was found from there was found from there
  pub made_grown : {kinds : List ℕ} {k j p x : ℕ} → k ≤ 16 → j < count → StepMatrix kinds n k entry j p x → StepMatrix kinds n k exit j p x
  made_grown {kinds} {j = j} {p} {x} few h m =
      let b = m.parent_before in
      let l = m.letter_lt in
      record {
        parent_before = b;
        letter_lt = l;
        same = same_trans (same_sym (step_grown kinds p x (omega arith) (omega arith))) (same_trans m.same (g.same j h));
      }

  pub found_grown : {kinds : List ℕ} {k j p x : ℕ} → k ≤ 16 → j < count → FoundFrom kinds n k entry j p x → FoundFrom kinds n k exit j p x
  found_grown {kinds} few h f =
      let b = f.made.parent_before in
      record {
        made = made_grown few h f.made;
        sooner = λ q y s r. step_among_grown kinds q y (omega (arith, sooner_le s)) (omega arith) (omega arith) (f.sooner q y s r);
      }
