-- Where the two bytes of a pair's number stand, that a number of two bytes is read back as it was stored, and which bytes a
-- store keeps. Assumes nothing.
use Prim.Native.Nat.{ℕ, ◌+◌, ◌*◌, ◌/◌, ◌%◌, ◌≤◌, ◌<◌}
use mathlib.Core.Path.{◌≡◌, ◌∙◌}
use mathlib.Core.Logic.{◌≢◌}
use mathlib.Core.List.{List}
use native.Mathlib.Omega.{arith}
use native.Mathlib.Decide.{ℕ_discrete}
use native.Mathlib.Nat.{mul-le-mul}
use lib.ListN.{length, get_or, set, length-set}
use lib.Seq.{get_or-set_same, get_or-set_other}
use lib.Arith.{digits_lt}
use Rattle.formats.specs.Sections.{two_bytes}
use Rattle.scratch.specs.Bytes.{UnchangedOutside}
use Rattle.mark_class_numbers.specs.Cells.{Stored}

-- a table of n elements has at most 4,096 pairs
pub pairs_small : {n : ℕ} → n ≤ 64 → n * n ≤ 4096
pairs_small h = mul-le-mul h h

-- where the number of (s, e) stands: each step of the way there is small, and both bytes are inside
pub record CellNeeds (n s e : ℕ) (bytes : List ℕ) : Type 0 where
  pub below : s * n + e < n * n
  pub small : n * n ≤ 4096
  pub inside : 2 * (s * n + e) + 1 < length bytes

pub cell_place : {n s e : ℕ} {bytes : List ℕ} → n ≤ 64 → s < n → e < n → 2 * (n * n) ≤ length bytes → CellNeeds n s e bytes
cell_place h hs he long =
    let b = digits_lt hs he in
    record { below = b; small = pairs_small h; inside = omega arith }

-- the two bytes of a number, low byte first
pub stored_two : (l : List ℕ) (at number : ℕ) → at + 1 < length l → number < 65536
    → Stored l (set (set l at (number % 256)) (at + 1) (number / 256 % 256)) at number
unfolding two_bytes
stored_two l at number h small =
    let a = number % 256 in
    let b = number / 256 % 256 in
    let low : get_or (set (set l at a) (at + 1) b) at 0 ≡ a =
    get_or-set_other (set l at a) (at + 1) at b 0 (λ e. omega arith) ∙ get_or-set_same l at a 0 (omega arith) in
    let high : get_or (set (set l at a) (at + 1) b) (at + 1) 0 ≡ b = get_or-set_same (set l at a) (at + 1) b 0 (simp length-set (omega arith)) in
    record {
      same_length = simp length-set;
      is_number = omega arith;
      low = omega arith;
      high = omega arith;
      others = λ i f g. get_or-set_other (set l at a) (at + 1) i b 0 g ∙ get_or-set_other l at i a 0 f;
    }

-- two bytes that are as they were hold the number that they held
pub two_kept : (now next : List ℕ) (i : ℕ) → get_or next (2 * i) 0 ≡ get_or now (2 * i) 0 → get_or next (2 * i + 1) 0 ≡ get_or now (2 * i + 1) 0
    → two_bytes next (2 * i) ≡ two_bytes now (2 * i)
unfolding two_bytes
two_kept now next i p q = omega arith

-- a store leaves the numbers of other pairs
pub stored_other : {entry exit : List ℕ} {place number : ℕ} → Stored entry exit (2 * place) number → (i : ℕ) → (i ≡ place → ⊥)
    → two_bytes exit (2 * i) ≡ two_bytes entry (2 * i)
stored_other {entry} {exit} {place} s i f =
    let g : i ≢ place = f in
    two_kept entry exit i (s.others (2 * i) (λ e. omega arith) (λ e. omega arith)) (s.others (2 * i + 1) (λ e. omega arith) (λ e. omega arith))

-- and every byte below 256, if those were that it does not write
pub stored_byte : {entry exit : List ℕ} {at number : ℕ} → Stored entry exit at number → (i : ℕ)
    → ((i ≡ at → ⊥) → (i ≡ at + 1 → ⊥) → get_or entry i 0 < 256) → get_or exit i 0 < 256
stored_byte {entry} {exit} {at} s i h = go (ℕ_discrete i at) (ℕ_discrete i (at + 1))
  where
    go : Dec (i ≡ at) → Dec (i ≡ at + 1) → get_or exit i 0 < 256
    go (yes q) r = rw q s.low
    go (no f) (yes q) = rw q s.high
    go (no f) (no g) = rw (s.others i f g) (h f g)

-- a store within a part
pub stored_kept : {entry exit : List ℕ} {from to at number : ℕ} → Stored entry exit at number → from ≤ at → at + 1 < to → UnchangedOutside from to entry exit
stored_kept s g h = record {
  same_length = s.same_length;
  before = λ i p. s.others i (λ q. omega arith) (λ q. omega arith);
  after = λ i p. s.others i (λ q. omega arith) (λ q. omega arith);
}
