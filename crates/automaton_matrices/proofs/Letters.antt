-- The matrix of a letter, read from bytes: the ways through the tests of one entry, that the entries are those of the letter's
-- matrix of whatever automaton stands in the bytes, and that one stands there. Assumes nothing.
use Prim.Native.Nat.{ℕ, ◌+◌, ◌*◌, ◌≤◌, ◌<◌}
use mathlib.Core.Path.{◌≡◌, refl, sym, ap, subst, ◌∙◌}
use mathlib.Core.Bool.{Bool, true, false, cond, ◌||◌}
use mathlib.Core.List.{List}
use native.Mathlib.Omega.{arith}
use lib.ListN.{length, get_or}
use lib.Dec.{ltb}
use borrow.Author.Tests.{lt-ltb, le-ltb}
use Rattle.buchi.specs.Automata.{Automaton}
use Rattle.buchi.specs.Matrices.{SameEntries}
use Rattle.buchi.proofs.WordMatrices.{letter_matrix}
use Rattle.buchi.proofs.Products.{same_trans}
use Rattle.automaton_matrices.specs.Bytes.{final_at, step_at, AutomatonAt, automaton_at, LetterNeeds, EntryNeeds, letter_entry, IsLetter}
use Rattle.automaton_products.proofs.Rows.{RowsOf, rows_same, rows_shape}

-- ---- one entry

-- an entry is at most 2
picked_small : (s t : Bool) → cond s (cond t 2 1) 0 ≤ 2
picked_small true true = omega arith
picked_small true false = omega arith
picked_small false t = omega arith

module _ (kinds steps : List ℕ) (x p q : ℕ) where
  pub letter_none : get_or steps (p * 96 + (x * 6 + q)) 0 ≡ 0 → 0 ≡ letter_entry kinds steps x p q
  unfolding letter_entry step_at final_at
  letter_none e = rw e

  module _ (some : get_or steps (p * 96 + (x * 6 + q)) 0 ≡ 0 → ⊥) where
    there : ltb 0 (get_or steps (p * 96 + (x * 6 + q)) 0) ≡ true
    there = lt-ltb 0 (get_or steps (p * 96 + (x * 6 + q)) 0) (positive (get_or steps (p * 96 + (x * 6 + q)) 0) some)
      where
        positive : (b : ℕ) → (b ≡ 0 → ⊥) → 0 < b
        positive b f = omega arith

    pub letter_from_final : 1 < get_or kinds p 0 → 2 ≡ letter_entry kinds steps x p q
    unfolding letter_entry step_at final_at
    letter_from_final h = simp (there, lt-ltb 1 (get_or kinds p 0) h)

    pub letter_to_final : get_or kinds p 0 ≤ 1 → 1 < get_or kinds q 0 → 2 ≡ letter_entry kinds steps x p q
    unfolding letter_entry step_at final_at
    letter_to_final l h = simp (there, le-ltb 1 (get_or kinds p 0) l, lt-ltb 1 (get_or kinds q 0) h)

    pub letter_plain : get_or kinds p 0 ≤ 1 → get_or kinds q 0 ≤ 1 → 1 ≡ letter_entry kinds steps x p q
    unfolding letter_entry step_at final_at
    letter_plain l h = simp (there, le-ltb 1 (get_or kinds p 0) l, le-ltb 1 (get_or kinds q 0) h)

  letter_small : letter_entry kinds steps x p q ≤ 2
  unfolding letter_entry
  letter_small = picked_small (step_at steps p x q) (final_at kinds p || final_at kinds q)

-- the bytes of an entry are there
pub entry_place : {kinds steps : List ℕ} {n x p q : ℕ} → LetterNeeds kinds n steps x → p < n → q < n → EntryNeeds kinds steps x p q
entry_place k hp hq =
    let few = k.few_states in
    let long = k.kinds_long in
    record {
      from_small = omega arith;
      to_small = omega arith;
      letter_small = k.letter_small;
      from_there = omega arith;
      to_there = omega arith;
      steps_long = k.steps_long;
    }

-- ---- the matrix

-- in any bytes some automaton stands
pub stands_at : {kinds steps : List ℕ} {n k : ℕ} → n ≤ 6 → k ≤ 16 → n ≤ length kinds → 576 ≤ length steps → AutomatonAt (automaton_at kinds n k steps) kinds steps
unfolding automaton_at
stands_at few letters kinds_long steps_long = record {
  few_states = few;
  few_letters = letters;
  kinds_long = kinds_long;
  steps_long = steps_long;
  initials = λ p h. refl;
  finals = λ p h. refl;
  transitions = λ p x q hp hx hq. refl;
}

-- an automaton that stands in the bytes has these entries
pub stands_letter : {t : Automaton} {kinds steps : List ℕ} → AutomatonAt t kinds steps → (x : ℕ) → x < t.letters
    → SameEntries t.states (letter_matrix t x) (letter_entry kinds steps x)
unfolding letter_matrix letter_entry
stands_letter {t} {kinds} {steps} k x h = record {
  same = λ p q hp hq.
      let s : t.step p x q ≡ step_at steps p x q = k.transitions p x q hp h hq in
      let f : t.final p ≡ final_at kinds p = k.finals p hp in
      let g : t.final q ≡ final_at kinds q = k.finals q hq in
      rw (s, f, g);
}

-- rows filled with them are the matrix of the letter
pub letter_filled : {kinds steps : List ℕ} {n p x : ℕ} {m : List (List ℕ)} → LetterNeeds kinds n steps x → p ≤ n → n ≤ p
    → RowsOf (letter_entry kinds steps x) p n m → IsLetter kinds n steps x m
letter_filled {kinds} {steps} {n} {p} {x} {m} k l g r =
    let e : p ≡ n = omega arith in
    let r' : RowsOf (letter_entry kinds steps x) n n m = rw e at r in
    record {
      shape = rows_shape r' k.few_states (λ i j hi hj. letter_small kinds steps x i j);
      same = rows_same r' k.few_states;
      is_letter = λ t s d h. same_trans (subst (λ c. SameEntries c (letter_matrix t x) (letter_entry kinds steps x)) d (stands_letter s x h)) (rows_same r' k.few_states);
    }

-- ---- other bytes with the same transitions

-- scratch of the same length, with the same bytes of the transitions
pub record SameSteps (steps steps' : List ℕ) : Type 0 where
  pub same_length : length steps' ≡ length steps
  pub same : (i : ℕ) → i < 576 → get_or steps' i 0 ≡ get_or steps i 0

module _ {steps steps' : List ℕ} (k : SameSteps steps steps') where
  same_step : (p x q : ℕ) → p < 6 → x < 16 → q < 6 → step_at steps' p x q ≡ step_at steps p x q
  unfolding step_at
  same_step p x q hp hx hq = ap (ltb 0) (k.same (p * 96 + (x * 6 + q)) (omega arith))

  -- the letters' matrices are the same
  pub letter_kept : (kinds : List ℕ) (n x : ℕ) → n ≤ 6 → x < 16 → SameEntries n (letter_entry kinds steps x) (letter_entry kinds steps' x)
  unfolding letter_entry
  letter_kept kinds n x few h = record {
    same = λ p q hp hq.
        let e : step_at steps' p x q ≡ step_at steps p x q = same_step p x q (omega arith) h (omega arith) in
        rw e refl;
  }

  -- and an automaton that stands in the one stands in the other
  pub stands_kept : {t : Automaton} {kinds : List ℕ} → AutomatonAt t kinds steps → AutomatonAt t kinds steps'
  stands_kept {t} {kinds} s =
      let few = s.few_states in
      let letters = s.few_letters in
      record {
        few_states = s.few_states;
        few_letters = s.few_letters;
        kinds_long = s.kinds_long;
        steps_long = rw k.same_length s.steps_long;
        initials = s.initials;
        finals = s.finals;
        transitions = λ p x q hp hx hq. s.transitions p x q hp hx hq ∙ sym (same_step p x q (omega arith) (omega arith) (omega arith));
      }
