-- The entries of the list of pairs and the numbers that name them: what a number says, and how the stores of a new entry extend both.
-- Assumes nothing.
use Prim.Native.Nat.{ℕ, zero, suc, ◌+◌, ◌*◌, ◌<◌}
use mathlib.Core.Path.{◌≡◌, refl, sym, ap, ◌∙◌}
use mathlib.Core.List.{List}
use native.Mathlib.Omega.{arith}
use native.Mathlib.Decide.{ℕ_discrete}
use borrow.Author.Count.{below_more}
use Rattle.finite.proofs.Worklist.{Entry}
use Rattle.theory.specs.Rules.{Value, element}
use Rattle.theory.proofs.Values.{element_apart, element_same}
use Rattle.scratch.specs.Map.{pair_numbers_base, pair_lefts_base, pair_rights_base, pair_parents_base, pair_letters_base}
use Rattle.rule_reach.proofs.Order.{Extends, Newest}
use Rattle.pair_list.specs.Pairs.{left_at, right_at, value_at, entry_at, parent_at, letter_at, number_at, Numbered, Numbers}
use Rattle.pair_list.specs.Steps.{Stored}

-- the halves of equal pairs
pub same_left : {x y : Value × Value} → x ≡ y → x.0 ≡ y.0
same_left e = ap (λ (p : Value × Value). p.0) e

pub same_right : {x y : Value × Value} → x ≡ y → x.1 ≡ y.1
same_right e = ap (λ (p : Value × Value). p.1) e

-- entry i + 1 is pair i
pub entry_pair : (scratch : List ℕ) (i : ℕ) → entry_at scratch (suc i) ≡ (element (left_at scratch i), element (right_at scratch i))
unfolding value_at
entry_pair scratch i = refl

module _ {scratch : List ℕ} {count : ℕ} (numbers : Numbers scratch count) where
  -- a pair with a number has an entry
  pub number_entry : {s t : ℕ} → s < 64 → t < 64 → 0 < number_at scratch s t → Entry (entry_at scratch) (suc count) (element s, element t)
  number_entry {s} {t} hs ht h =
      let n : Numbered scratch count s t = numbers.of_pair s t hs ht h in
      record { at = suc n.at; below = omega (arith, n.below); same = entry_pair scratch n.at ∙ cc (n.left, n.right) }

  -- the number of a pair that has an entry
  pub entry_number : {s t : ℕ} → Entry (entry_at scratch) (suc count) (element s, element t) → Numbered scratch count s t
  unfolding value_at
  entry_number {s} {t} f = go f.at f.below f.same
    where
      go : (i : ℕ) → i < suc count → entry_at scratch i ≡ (element s, element t) → Numbered scratch count s t
      go zero h d = absurd (element_apart (sym (same_left d)))
      go (suc i) h d =
          let l : left_at scratch i ≡ s = element_same (same_left d) in
          let r : right_at scratch i ≡ t = element_same (same_right d) in
          record { at = i; below = omega arith; number = cc (numbers.of_entry i (omega arith)); left = l; right = r }

-- one element more, behind those that stay
half_more : (before after : ℕ → ℕ) (count : ℕ) {x n : ℕ} → ((i : ℕ) → i < count → after i ≡ before i) → after count ≡ x
    → ((i : ℕ) → i < count → before i < n) → x < n → (i : ℕ) → i < count + 1 → after i < n
half_more before after count {n = n} old new inside h = below_more (λ i. after i < n) count (λ i l. rw (old i l) (inside i l)) (rw new h)

module _ {entry exit : List ℕ} {count s t from letter : ℕ} (stored : Stored entry exit count s t from letter) (hc : count < 64) (hs : s < 64) (ht : t < 64) where
  -- the pairs so far are as they were
  old_left : (i : ℕ) → i < count → left_at exit i ≡ left_at entry i
  old_left i l = stored.other (pair_lefts_base + i) (omega arith) (omega arith) (omega arith) (omega arith) (omega arith)

  old_right : (i : ℕ) → i < count → right_at exit i ≡ right_at entry i
  old_right i l = stored.other (pair_rights_base + i) (omega arith) (omega arith) (omega arith) (omega arith) (omega arith)

  old_entry : (i : ℕ) → i < suc count → entry_at exit i ≡ entry_at entry i
  unfolding value_at
  old_entry zero l = refl
  old_entry (suc i) l = cc (old_left i (omega arith), old_right i (omega arith))

  old_parent : (i : ℕ) → 0 < i → i < suc count → parent_at exit i ≡ parent_at entry i
  unfolding parent_at
  old_parent zero h l = refl
  old_parent (suc i) h l = stored.other (pair_parents_base + i) (omega arith) (omega arith) (omega arith) (omega arith) (omega arith)

  old_letter : (i : ℕ) → 0 < i → i < suc count → letter_at exit i ≡ letter_at entry i
  unfolding letter_at
  old_letter zero h l = refl
  old_letter (suc i) h l = stored.other (pair_letters_base + i) (omega arith) (omega arith) (omega arith) (omega arith) (omega arith)

  pub stored_extends : Extends (entry_at entry) (entry_at exit) (parent_at entry) (parent_at exit) (letter_at entry) (letter_at exit) (suc count)
  stored_extends = record { entries = old_entry; parents = old_parent; letters = old_letter }

  -- the new entry is found by the pair (entry, letter) that was stored
  pub stored_newest : {δ : ℕ → Value × Value → Value × Value} → (element s, element t) ≡ δ letter (entry_at entry from)
      → Newest δ (entry_at entry) (entry_at exit) (parent_at exit) (letter_at exit) (suc count) from letter
  unfolding value_at parent_at letter_at
  stored_newest e = record { entry = cc (stored.the_left, stored.the_right, e); parent = stored.the_parent; letter = stored.the_letter }

  -- the number of another pair is as it was
  old_number : (x y : ℕ) → x < 64 → y < 64 → ((x ≡ s) × (y ≡ t) → ⊥) → number_at exit x y ≡ number_at entry x y
  unfolding number_at
  old_number x y hx hy d =
      stored.other (pair_numbers_base + (x * 64 + y)) (omega arith) (omega arith) (omega arith) (omega arith)
      (λ e. d (omega arith, omega arith))

  -- the numbers name the entries again
  pub stored_numbers : number_at entry s t ≡ 0 → ((i : ℕ) → i < count → left_at entry i < 64) → ((i : ℕ) → i < count → right_at entry i < 64)
      → Numbers entry count → Numbers exit (count + 1)
  unfolding number_at
  stored_numbers e lefts rights numbers = record {
    of_entry = below_more (λ i. number_at exit (left_at exit i) (right_at exit i) ≡ i + 1) count old_named (rw (stored.the_left, stored.the_right) stored.the_number);
    of_pair = λ x y hx hy l. named x y hx hy l (ℕ_discrete x s) (ℕ_discrete y t);
  }
    where
      old_named : (i : ℕ) → i < count → number_at exit (left_at exit i) (right_at exit i) ≡ i + 1
      old_named i l =
          rw (old_left i l, old_right i l)
          (old_number (left_at entry i) (right_at entry i) (lefts i l) (rights i l) (λ d. omega (arith, numbers.of_entry i l, ap (λ x. number_at entry x (right_at entry i)) d.0, ap (number_at entry s) d.1, e))
          ∙ numbers.of_entry i l)

      kept : (x y : ℕ) → x < 64 → y < 64 → 0 < number_at exit x y → ((x ≡ s) × (y ≡ t) → ⊥) → Numbered exit (count + 1) x y
      kept x y hx hy l d =
          let g : number_at exit x y ≡ number_at entry x y = old_number x y hx hy d in
          let n : Numbered entry count x y = numbers.of_pair x y hx hy (omega arith) in
          record { at = n.at; below = omega (arith, n.below); number = g ∙ n.number; left = old_left n.at n.below ∙ n.left; right = old_right n.at n.below ∙ n.right }

      named : (x y : ℕ) → x < 64 → y < 64 → 0 < number_at exit x y → Dec (x ≡ s) → Dec (y ≡ t) → Numbered exit (count + 1) x y
      named x y hx hy l (yes d) (yes f) =
          record { at = count; below = omega arith; number = rw (d, f) stored.the_number; left = stored.the_left ∙ sym d; right = stored.the_right ∙ sym f }
      named x y hx hy l (no d) f = kept x y hx hy l (λ p. d p.0)
      named x y hx hy l (yes d) (no f) = kept x y hx hy l (λ p. f p.1)

  -- the halves stay elements
  pub stored_lefts : {n : ℕ} → ((i : ℕ) → i < count → left_at entry i < n) → s < n → (i : ℕ) → i < count + 1 → left_at exit i < n
  stored_lefts = half_more (left_at entry) (left_at exit) count old_left stored.the_left

  pub stored_rights : {n : ℕ} → ((i : ℕ) → i < count → right_at entry i < n) → t < n → (i : ℕ) → i < count + 1 → right_at exit i < n
  stored_rights = half_more (right_at entry) (right_at exit) count old_right stored.the_right
