-- The entries that were found from entry 0 stand first, by rising letters, so that they are no more than the letters. Assumes nothing.
use Prim.Native.Nat.{ℕ, zero, suc, ◌+◌, ◌≤◌, ◌<◌}
use mathlib.Core.Path.{◌≡◌, subst}
use mathlib.Core.Logic.{⊎_elim}
use mathlib.Core.List.{List}
use native.Mathlib.Omega.{arith}
use native.Mathlib.Nat.{eq-or-lt_of_le}
use lib.ListN.{get_or}
use Rattle.finite.proofs.FirstWords.{Sooner, sooner_parent, sooner_letter}
use Rattle.formats.proofs.Tables.{Table}
use Rattle.rule_reach.specs.Reach.{parent_at, letter_at}
use Rattle.rule_letter_columns.specs.Columns.{AllFound, LetterEntries}

-- a parent that is not before one above 0 is above 0
sooner_above : {p a p' a' : ℕ} → 0 < p → Sooner p a p' a' → 0 < p'
sooner_above l (sooner_parent g) = omega arith
sooner_above l (sooner_letter e g) = omega arith

module _ {bytes : List ℕ} {n k : ℕ} {queue : List ℕ} {count : ℕ} (f : AllFound bytes n k queue count) where
  -- an entry was found by a letter
  pub letter_small : (i : ℕ) → i < count → get_or queue (128 + i) 0 < k
  unfolding letter_at
  letter_small i h = f.order.letter_lt (suc i) (omega arith) (omega arith)

  -- the entries behind one that was not found from the empty word's were not either
  later_entries : (i : ℕ) → i < count → 0 < get_or queue (64 + i) 0 → (j : ℕ) → i ≤ j → j < count → 0 < get_or queue (64 + j) 0
  unfolding parent_at letter_at
  later_entries i h l j g b =
      ⊎_elim (λ (e : i ≡ j). subst (λ (x : ℕ). 0 < get_or queue (64 + x) 0) e l)
      (λ (lt : i < j). sooner_above l (f.order.increasing (suc i) (suc j) (omega arith) (omega arith) (omega arith))) (eq-or-lt_of_le g)

  pub letters_end : {i : ℕ} → i < count → ((j : ℕ) → j < i → get_or queue (64 + j) 0 ≡ 0) → 0 < get_or queue (64 + i) 0 → LetterEntries queue count i
  letters_end {i} h first l = record { few = omega arith; first = first; later = later_entries i h l }

  module _ {letters : ℕ} (e : LetterEntries queue count letters) where
    -- each of the first entries has a letter of its own, and the letters rise
    letters_rise : (i : ℕ) → i < letters → i ≤ get_or queue (128 + i) 0
    unfolding parent_at letter_at
    letters_rise zero h = omega arith
    letters_rise (suc i) h = go (letters_rise i (omega arith)) (f.order.increasing (suc i) (suc (suc i)) (omega arith) (omega arith) (omega (arith, e.few)))
      where
        go : i ≤ get_or queue (128 + i) 0 → Sooner (get_or queue (64 + i) 0) (get_or queue (128 + i) 0) (get_or queue (64 + suc i) 0) (get_or queue (128 + suc i) 0) → suc i ≤ get_or queue (128 + suc i) 0
        go r (sooner_parent l) = omega (arith, e.first (suc i) h)
        go r (sooner_letter q l) = omega arith

    -- so there are no more of them than letters
    pub letters_few : Table bytes n k → letters ≤ 16
    letters_few t = go letters letters_rise e.few
      where
        go : (l : ℕ) → ((i : ℕ) → i < l → i ≤ get_or queue (128 + i) 0) → l ≤ count → l ≤ 16
        go zero rise few = omega arith
        go (suc i) rise few = omega (arith, rise i (omega arith), letter_small i (omega arith), t.letters_small)
