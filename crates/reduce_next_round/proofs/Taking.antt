-- The new blocks compared with those that stand. Assumes nothing.
use Rattle.std.proofs.Common.{◌≡◌, ℕ, ◌+◌, ◌-◌, ◌<◌, ◌≤◌, ◌⊎◌, Bool, true, false, not, List, length, get_or, take, drop, refl, sym, ap, ◌∙◌, inl, inr, arith}
use Rattle.std.proofs.lemmas.Grind.{common_steps}
use Rattle.std.proofs.lemmas.List.{ext_get_or}
use Rattle.std.proofs.lemmas.Slice.Eq.{slice_eq-Decides}
use Rattle.std.proofs.lemmas.Bool.Decides.{Decides-eqb}
use Rattle.std.proofs.Math.Dec.{eqb, T}
use Rattle.std.proofs.Math.Facts.{eqb_no, no_eqb}
use lib.Pointwise.{pointwise}
use native.Mathlib.Decide.{ℕ_discrete}
use mathlib.Core.Logic.{by_cases}
use borrow.Author.Tests.{not-true, not-false}
use Rattle.finite.specs.Tells.{Tells}
use Rattle.finite.proofs.Search.{Found, found_or_none}
use Rattle.scratch.specs.Map.{blocks_base, next_blocks_base}
use Rattle.reduce_next_round.specs.Round.{BlockChanges}

-- the bytes of a part
module _ (l : List ℕ) (base c : ℕ) (room : base + c ≤ length l) where
  part_many : length (take (base + c - base) (drop base l)) ≡ c
  part_many = grind (arith, common_steps)

  part_item : (j : ℕ) → j < c → get_or (take (base + c - base) (drop base l)) j 0 ≡ get_or l (base + j) 0
  part_item j h = grind (arith, common_steps)

module _ (l : List ℕ) (n from to : ℕ) (from_room : from + n ≤ length l) (to_room : to + n ≤ length l) where
  abbrev parts_equal : Bool
  parts_equal = pointwise eqb (take (from + n - from) (drop from l)) (take (to + n - to) (drop to l))

  decided : (parts_equal ≡ true → take (from + n - from) (drop from l) ≡ take (to + n - to) (drop to l))
      × (take (from + n - from) (drop from l) ≡ take (to + n - to) (drop to l) → parts_equal ≡ true)
  decided = slice_eq-Decides Decides-eqb (take (from + n - from) (drop from l)) (take (to + n - to) (drop to l)) parts_equal refl

  -- equal parts have the same bytes
  pub same_bytes : parts_equal ≡ true → (k : ℕ) → k < n → get_or l (from + k) 0 ≡ get_or l (to + k) 0
  same_bytes e k h =
      sym (part_item l from n from_room k h) ∙ ap (λ (xs : List ℕ). get_or xs k 0) (decided.0 e) ∙ part_item l to n to_room k h

  -- and parts that are not equal have a byte that differs
  pub other_byte : parts_equal ≡ false → Found n (λ k. not (eqb (get_or l (from + k) 0) (get_or l (to + k) 0)))
  other_byte e = go (found_or_none n (λ k. not (eqb (get_or l (from + k) 0) (get_or l (to + k) 0))))
    where
      go : Found n (λ k. not (eqb (get_or l (from + k) 0) (get_or l (to + k) 0))) ⊎ ((i : ℕ) → i < n → T (not (eqb (get_or l (from + i) 0) (get_or l (to + i) 0))) → ⊥)
          → Found n (λ k. not (eqb (get_or l (from + k) 0) (get_or l (to + k) 0)))
      go (inl f) = f
      go (inr none) =
          let alike : take (from + n - from) (drop from l) ≡ take (to + n - to) (drop to l) =
          ext_get_or 0 _ _ (part_many l from n from_room ∙ sym (part_many l to n to_room))
          (λ k h. let below : k < n = omega (arith, part_many l from n from_room) in
          part_item l from n from_room k below
          ∙ by_cases (ℕ_discrete (get_or l (from + k) 0) (get_or l (to + k) 0)) (λ q. q) (λ g. absurd (none k below (no_eqb g)))
          ∙ sym (part_item l to n to_room k below)) in
          let equal = decided.1 alike in
          cc

-- whether a block changes
pub changes_told : {n : ℕ} {l : List ℕ} {answer : Bool} (h : next_blocks_base + n ≤ length l) (g : blocks_base + n ≤ length l)
    → answer ≡ not (parts_equal l n next_blocks_base blocks_base h g) → Tells (BlockChanges n l) answer
changes_told {n} {l} {answer} h g e = record {
  holds = λ q.
      let f = other_byte l n next_blocks_base blocks_base h g (not-true _ (sym e ∙ q)) in
      record { at = f.at; below = f.below; differs = eqb_no f.holds };
  fails = λ q c. c.differs (same_bytes l n next_blocks_base blocks_base h g (not-false _ (sym e ∙ q)) c.at c.below);
}
