-- Bytes that are stored one by one from a base on, upwards or downwards, while all others keep their values. Assumes nothing.
use Prim.Native.Nat.{ℕ, ◌+◌, ◌≤◌, ◌<◌}
use mathlib.Core.Path.{◌≡◌, refl, ◌∙◌}
use mathlib.Core.Logic.{⊎_elim}
use mathlib.Core.List.{List}
use native.Mathlib.Omega.{arith}
use native.Mathlib.Nat.{eq-or-lt_of_le}
use lib.ListN.{length, get_or, set, length-set}
use lib.Seq.{get_or-set_same, get_or-set_other}
use Rattle.lasso_turns.specs.Cuts.{KeptAround}
use Rattle.scratch.specs.Bytes.{UnchangedOutside}

-- the bytes base + i with low ≤ i < high are right for their place; all others are as they were
pub record Stored (Right : ℕ → ℕ → Type 0) (entry now : List ℕ) (base low high : ℕ) : Type 0 where
  pub same_length : length now ≡ length entry
  pub right : (i : ℕ) → low ≤ i → i < high → Right i (get_or now (base + i) 0)
  pub before : (i : ℕ) → i < base + low → get_or now i 0 ≡ get_or entry i 0
  pub after : (i : ℕ) → base + high ≤ i → get_or now i 0 ≡ get_or entry i 0

-- nothing was stored
pub stored_start : (Right : ℕ → ℕ → Type 0) (entry : List ℕ) (base at : ℕ) → Stored Right entry entry base at at
stored_start Right entry base at = record {
  same_length = refl;
  right = λ i l h. absurd (omega arith);
  before = λ i h. refl;
  after = λ i h. refl;
}

module _ {Right : ℕ → ℕ → Type 0} {entry now : List ℕ} {base low high : ℕ} (stored : Stored Right entry now base low high)
    (at place x : ℕ) (is_place : place ≡ base + at) (fits : base + at < length entry) (x-right : Right at x) where
  here : Right at (get_or (set now place x) (base + at) 0)
  here = rw (is_place, get_or-set_same now (base + at) x 0 (omega (arith, stored.same_length))) x-right

  other : (i : ℕ) → (i ≡ place → ⊥) → get_or (set now place x) i 0 ≡ get_or now i 0
  other i d = get_or-set_other now place i x 0 d

  -- one more byte above those stored
  pub stored_up : at ≡ high → low ≤ at → Stored Right entry (set now place x) base low (at + 1)
  stored_up e l = record {
    same_length = length-set now place x ∙ stored.same_length;
    right = λ i p q. ⊎_elim
        (λ (g : i ≡ at). rw g here)
        (λ (g : i < at). rw (other (base + i) (λ z. omega arith)) (stored.right i p (omega arith)))
        (eq-or-lt_of_le (let z : i ≤ at = omega arith in z));
    before = λ i h. other i (λ z. omega arith) ∙ stored.before i h;
    after = λ i h. other i (λ z. omega arith) ∙ stored.after i (omega arith);
  }

  -- one more byte below those stored
  pub stored_down : at + 1 ≡ low → low ≤ high → Stored Right entry (set now place x) base at high
  stored_down e l = record {
    same_length = length-set now place x ∙ stored.same_length;
    right = λ i p q. ⊎_elim
        (λ (g : at ≡ i). rw (← g) here)
        (λ (g : at < i). rw (other (base + i) (λ z. omega arith)) (stored.right i (omega arith) q))
        (eq-or-lt_of_le p);
    before = λ i h. other i (λ z. omega arith) ∙ stored.before i (omega arith);
    after = λ i h. other i (λ z. omega arith) ∙ stored.after i h;
  }

-- where every place is stored, only those bytes may differ
pub stored_kept : {Right : ℕ → ℕ → Type 0} {entry now : List ℕ} {base high count : ℕ} → Stored Right entry now base 0 high → count ≡ high
    → KeptAround entry now base count
stored_kept s e = record {
  same_length = s.same_length;
  before = λ i h. s.before i (omega arith);
  after = λ i h. s.after i (omega arith);
}

-- what was stored stays stored if the bytes are taken from now on as those at the start
pub stored_here : {Right : ℕ → ℕ → Type 0} {entry now : List ℕ} {base low high : ℕ} → Stored Right entry now base low high
    → Stored Right now now base low high
stored_here s = record { same_length = refl; right = s.right; before = λ i h. refl; after = λ i h. refl }

-- a store among the bytes that may differ comes first
pub kept_store : {entry now : List ℕ} {from to : ℕ} (place x : ℕ) → from ≤ place → place < to → UnchangedOutside from to (set entry place x) now
    → UnchangedOutside from to entry now
kept_store {entry} place x low high k = record {
  same_length = k.same_length ∙ length-set entry place x;
  before = λ i h. k.before i h ∙ get_or-set_other entry place i x 0 (λ z. omega arith);
  after = λ i h. k.after i h ∙ get_or-set_other entry place i x 0 (λ z. omega arith);
}
