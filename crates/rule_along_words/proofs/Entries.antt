-- What the bytes of an entry behind the letters' are: an element, an entry before it, and a letter, whose element is an entry that was
-- found from entry 0. Assumes nothing.
use Prim.Native.Nat.{ℕ, zero, suc, ◌+◌, ◌-◌, ◌≤◌, ◌<◌}
use mathlib.Core.Path.{◌≡◌, sym, ◌∙◌, subst}
use mathlib.Core.Logic.{⊎_elim}
use mathlib.Core.List.{List}
use native.Mathlib.Omega.{arith}
use native.Mathlib.Nat.{add-sub_cancel}
use lib.ListN.{get_or}
use Rattle.finite.proofs.Numbers.{le_or_lt}
use Rattle.finite.proofs.FirstWords.{sooner_parent}
use Rattle.theory.specs.Rules.{element, join}
use Rattle.theory.proofs.Values.{element_apart, element_same}
use Rattle.formats.proofs.Tables.{Table, image_below}
use Rattle.formats.specs.Table.{image_at}
use Rattle.rule_reach.specs.Reach.{entry_at, parent_at, place_at, word_step}
use Rattle.rule_letter_columns.specs.Columns.{AllFound, LetterEntries, Column, LetterColumns}
use Rattle.rule_letter_columns.proofs.Entries.{letter_small, letters_few}

-- a letter's element, as one of the first entries
pub record LetterEntry (bytes : List ℕ) (n : ℕ) (queue : List ℕ) (letters a : ℕ) : Type 0 where
  pub at : ℕ
  pub below : at < letters
  pub same : get_or queue at 0 ≡ image_at bytes n a

-- the number that the worklist has for a letter's element is that of one of the first entries
pub record LetterColumn (queue : List ℕ) (letters h : ℕ) : Type 0 where
  pub above : 0 < get_or queue (192 + h) 0
  pub below : get_or queue (192 + h) 0 - 1 < letters
  pub same : get_or queue (get_or queue (192 + h) 0 - 1) 0 ≡ h

-- so its column is there
pub place_column : {bytes : List ℕ} {n : ℕ} {queue columns : List ℕ} {letters h : ℕ} → LetterColumns bytes n queue letters columns → LetterColumn queue letters h
    → Column bytes n columns (get_or queue (192 + h) 0 - 1) h
place_column {bytes} {n} {queue} {columns} {h = h} c p =
    subst (Column bytes n columns (get_or queue (192 + h) 0 - 1)) p.same (c.column (get_or queue (192 + h) 0 - 1) p.below)

-- an entry behind the letters', with its letter's element h: what the first test looks up
pub record WordEntry (queue : List ℕ) (n letters i h : ℕ) : Type 0 where
  pub parent_inside : get_or queue (get_or queue (64 + i) 0 - 1) 0 < n
  pub inside : get_or queue i 0 < n
  pub image_inside : h < n
  pub place : LetterColumn queue letters h
  pub few : letters ≤ 16

module _ {bytes : List ℕ} {n k : ℕ} {queue : List ℕ} {count : ℕ} (f : AllFound bytes n k queue count) where
  -- an entry was found from one before it
  pub parent_small : (i : ℕ) → i < count → get_or queue (64 + i) 0 ≤ i
  unfolding parent_at
  parent_small i h = omega (arith, f.order.parent_lt (suc i) (omega arith) (omega arith))

  module _ {letters : ℕ} (e : LetterEntries queue count letters) where
    -- a letter's element is one of the first entries
    pub letter_entry_lem : (a : ℕ) → a < k → LetterEntry bytes n queue letters a
    unfolding entry_at parent_at word_step join
    letter_entry_lem a h = go (f.order.closed 0 a (omega arith) h).at (f.order.closed 0 a (omega arith) h).below (f.order.closed 0 a (omega arith) h).same
      where
        go : (i : ℕ) → i < suc count → entry_at queue i ≡ element (image_at bytes n a) → LetterEntry bytes n queue letters a
        go zero l q = absurd (element_apart (sym q))
        go (suc i) l q = record {
          at = i;
          below =
              ⊎_elim (λ (g : letters ≤ i). absurd (f.order.fresh (suc i) 0 a (omega arith) l (omega arith) h (sooner_parent (e.later i g (omega arith))) (sym q)))
              (λ (g : i < letters). g) (le_or_lt letters i);
          same = element_same q;
        }

    -- the one that the worklist names
    letter_place_lem : {a h : ℕ} → a < k → h ≡ image_at bytes n a → LetterColumn queue letters h
    unfolding place_at
    letter_place_lem {a} {h} l q = go (letter_entry_lem a l)
      where
        go : LetterEntry bytes n queue letters a → LetterColumn queue letters h
        go p =
            let same : get_or queue p.at 0 ≡ h = p.same ∙ sym q in
            let place : get_or queue (192 + h) 0 ≡ p.at + 1 = rw same at (f.places.of_entry p.at (omega (arith, p.below, e.few))) in
            record { above = omega arith; below = omega (arith, p.below); same = rw (place, add-sub_cancel) same }

    pub word_entry : {i h : ℕ} → Table bytes n k → letters ≤ i → i < count → h ≡ image_at bytes n (get_or queue (128 + i) 0) → WordEntry queue n letters i h
    word_entry {i} t l b q = record {
      parent_inside = f.inside (get_or queue (64 + i) 0 - 1) (omega (arith, parent_small i b, e.later i l b));
      inside = f.inside i b;
      image_inside = image_below t (letter_small f i b) q;
      place = letter_place_lem (letter_small f i b) q;
      few = letters_few f e t;
    }
