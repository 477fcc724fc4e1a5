-- One pass over a word, from its first letter or from its last: the value of the beginning, or of the end, that was passed.
-- Assumes nothing.
use Prim.Native.Nat.{ℕ, suc, ◌+◌, ◌-◌, ◌≤◌, ◌<◌}
use mathlib.Core.Path.{◌≡◌, refl, sym, ap, ◌∙◌}
use mathlib.Core.List.{List, [], ◌∷◌}
use native.Mathlib.Omega.{arith}
use native.Mathlib.Numerals.{add-one}
use lib.ListN.{length, get_or, take, drop, drop_of_length-le}
use lib.Seq.{take-suc, take_all, drop-cons}
use Rattle.std.proofs.lemmas.Grind.{common_steps}
use Rattle.theory.specs.Words.{Over, over_nil, over_cons}
use Rattle.theory.specs.Rules.{Morphism, Lawful, Value, none, element, join, value}
use Rattle.theory.proofs.Words.{over_take, over_drop, over_at}
use Rattle.theory.proofs.Values.{value_append, join_none, join_elements, inside_of}
use Rattle.rule_table.specs.Table.{ImageNeeds}
use Rattle.formats.proofs.Tables.{Table, image_below}
use Rattle.formats.specs.Table.{product_at, image_at, morphism_at}
use Rattle.rule_table.proofs.Facts.{image_place}
use Rattle.lasso_cuts.specs.WordValues.{CallWord}

-- the value of a word is the product of its first letter's element and the value of the rest
value_cons : (m : Morphism) (a : ℕ) (w : List ℕ) → value m (a ∷ w) ≡ join m (element (m.image a)) (value m w)
unfolding value
value_cons m a w = refl

value_nil : (m : Morphism) → value m [] ≡ none
unfolding value
value_nil m = refl

-- the value of one letter
pub value_letter : (m : Morphism) (a : ℕ) → value m (a ∷ []) ≡ element (m.image a)
value_letter m a = value_cons m a [] ∙ ap (join m (element (m.image a))) (value_nil m) ∙ join_none m (element (m.image a))

module _ {m : Morphism} (law : Lawful m) {w : List ℕ} (o : Over m.letters w) where
  -- one letter more behind a beginning
  pub value_behind : {j s : ℕ} → j < length w → value m (take j w) ≡ element s
      → value m (take (suc j) w) ≡ element (m.product s (m.image (get_or w j 0)))
  value_behind {j} {s} h e =
      ap (value m) (take-suc w j 0 h)
      ∙ value_append law (over_take j o) (over_cons (over_at m.letters w o j h) over_nil)
      ∙ ap (join m (value m (take j w))) (value_letter m (get_or w j 0))
      ∙ ap (λ (x : Value). join m x (element (m.image (get_or w j 0)))) e
      ∙ join_elements m s (m.image (get_or w j 0))

-- one letter more before an end
pub value_before : (m : Morphism) (w : List ℕ) {j s : ℕ} → j < length w → value m (drop (suc j) w) ≡ element s
    → value m (drop j w) ≡ element (m.product (m.image (get_or w j 0)) s)
value_before m w {j} {s} h e =
    ap (value m) (drop-cons w j 0 h)
    ∙ value_cons m (get_or w j 0) (drop (suc j) w)
    ∙ ap (join m (element (m.image (get_or w j 0)))) e
    ∙ join_elements m (m.image (get_or w j 0)) s

-- the letters of a word behind the first, as a slice has them
module _ (w : List ℕ) where
  pub letters_many : length (take (length w - 1) (drop 1 w)) ≡ length w - 1
  letters_many = grind (arith, common_steps)

  pub letter_item : (i : ℕ) → i + 1 < length w → get_or (take (length w - 1) (drop 1 w)) i 0 ≡ get_or w (i + 1) 0
  letter_item i h = grind (arith, common_steps)

-- what a pass over a word may use
pub record Reading (bytes : List ℕ) (n k : ℕ) (w : List ℕ) : Type 0 where
  pub table : Table bytes n k
  pub law : Lawful (morphism_at bytes n k)
  pub word : CallWord k w

-- s is the value of the first j letters
pub record Begun (bytes : List ℕ) (n k : ℕ) (w : List ℕ) (s j : ℕ) : Type 0 where
  pub reading : Reading bytes n k w
  pub high : j ≤ length w
  pub has_value : value (morphism_at bytes n k) (take j w) ≡ element s

-- s is the value of the letters from place i on
pub record Ended (bytes : List ℕ) (n k : ℕ) (w : List ℕ) (s i : ℕ) : Type 0 where
  pub reading : Reading bytes n k w
  pub below : i < length w
  pub has_value : value (morphism_at bytes n k) (drop i w) ≡ element s

module _ {bytes : List ℕ} {n k : ℕ} {w : List ℕ} where
  -- a letter's element stands in the table
  pub letter_place_lem : Reading bytes n k w → (j : ℕ) → j < length w → ImageNeeds bytes n (get_or w j 0)
  letter_place_lem r j h = image_place r.table (over_at k w r.word.over j h)

  -- a letter's element is an element
  pub letter_inside : Reading bytes n k w → (j h : ℕ) → j < length w → h ≡ image_at bytes n (get_or w j 0) → h < n
  letter_inside r j h l e = image_below r.table (over_at k w r.word.over j l) e

  -- the first letter was passed
  pub begun_start : {s : ℕ} → Reading bytes n k w → s ≡ image_at bytes n (get_or w 0 0) → Begun bytes n k w s 1
  begun_start {s} r e = record {
    reading = r;
    high = r.word.some;
    has_value = ap (value (morphism_at bytes n k)) (take-suc w 0 0 r.word.some) ∙ value_letter (morphism_at bytes n k) (get_or w 0 0) ∙ ap element (sym e);
  }

  -- one letter more, with its element h
  pub begun_next : {s j h t : ℕ} → Begun bytes n k w s j → j < length w → h ≡ image_at bytes n (get_or w j 0) → t ≡ product_at bytes n s h
      → Begun bytes n k w t (j + 1)
  begun_next {s} {j} {h} {t} b l eh et = record {
    reading = b.reading;
    high = omega arith;
    has_value = rw add-one (value_behind b.reading.law b.reading.word.over l b.has_value ∙ ap element (cc));
  }

  -- the value that a pass holds is an element
  pub begun_inside : {s j : ℕ} → Begun bytes n k w s j → s < n
  begun_inside {s} {j} b = inside_of b.reading.law (over_take j b.reading.word.over) b.has_value

  -- where the pass ends, s is the value of the word
  pub begun_all : {s j : ℕ} → Begun bytes n k w s j → length w ≤ j → value (morphism_at bytes n k) w ≡ element s
  begun_all {s} {j} b l = ap (value (morphism_at bytes n k)) (sym (take_all j w l)) ∙ b.has_value

  -- the last letter was passed
  pub ended_start : {s i : ℕ} → Reading bytes n k w → i ≡ length w - 1 → s ≡ image_at bytes n (get_or w i 0) → Ended bytes n k w s i
  ended_start {s} {i} r ei e =
      let some : 1 ≤ length w = r.word.some in
      let l : i < length w = omega arith in
      let last : length w ≤ suc i = omega arith in
      record {
        reading = r;
        below = l;
        has_value = ap (value (morphism_at bytes n k)) (drop-cons w i 0 l ∙ ap (λ (z : List ℕ). get_or w i 0 ∷ z) (drop_of_length-le w last))
            ∙ value_letter (morphism_at bytes n k) (get_or w i 0) ∙ ap element (sym e);
      }

  -- one letter more before the end, with its element h
  pub ended_next : {s i h t : ℕ} → Ended bytes n k w s i → 0 < i → h ≡ image_at bytes n (get_or w (i - 1) 0) → t ≡ product_at bytes n h s
      → Ended bytes n k w t (i - 1)
  ended_next {s} {i} {h} {t} b l eh et =
      let g : suc (i - 1) ≡ i = omega arith in
      record {
        reading = b.reading;
        below = omega (arith, b.below);
        has_value = value_before (morphism_at bytes n k) w {j = i - 1} (omega (arith, b.below))
            (ap (λ (x : ℕ). value (morphism_at bytes n k) (drop x w)) g ∙ b.has_value) ∙ ap element (cc);
      }

  -- the value that a pass from the last letter holds is an element
  pub ended_inside : {s i : ℕ} → Ended bytes n k w s i → s < n
  ended_inside {s} {i} b = inside_of b.reading.law (over_drop i b.reading.word.over) b.has_value
