-- The map of scratch while a rule is reduced: where the marks, the outcomes and the blocks stand. Assumes nothing.
--
--    4096  the closure of the rule's marks, a byte for each pair (s, e), at s·64 + e; only read here
--    8192  the outcomes, a byte for each pair of values (s, z), at s·64 + z: the grade of the lassos with those values
--   12288  the blocks, a byte for each element: the least element of its block
--   12352  the blocks after the round that is being worked out, laid out alike; they end at 12416
use Rattle.std.specs.Prelude.{ℕ, ◌+◌, ◌*◌, ◌≤◌, ◌<◌, ◌≡◌, List, get_or}
use Rattle.theory.specs.Rules.{Morphism}
use Rattle.theory.proofs.Strength.{settled_start, settled_cycle}
use Rattle.scratch.specs.Map.{blocks_base, outcomes_base, second_base, marks_from}

-- what lassos with the values (s, z) come to, by a table of marks from 4096 on: its mark of the pair (s·f, f), f the idempotent power
-- of z
unfoldable pub outcome_of : Morphism → List ℕ → ℕ → ℕ → ℕ
outcome_of m scratch s z = marks_from scratch second_base (settled_start m s z) (settled_cycle m z)

-- the byte of the outcome of (s, z)
unfoldable pub outcome_at : List ℕ → ℕ → ℕ → ℕ
outcome_at scratch s z = get_or scratch (outcomes_base + (s * 64 + z)) 0

-- s and t have the same byte from 12288 on
unfoldable pub InOneBlock : List ℕ → ℕ → ℕ → Type 0
InOneBlock scratch s t = get_or scratch (blocks_base + s) 0 ≡ get_or scratch (blocks_base + t) 0

-- the bytes from a base on have for each of n elements the least that is related to it
pub record BlocksAt (n : ℕ) (R : ℕ → ℕ → Type 0) (scratch : List ℕ) (base : ℕ) : Type 0 where
  pub at_most : (s : ℕ) → s < n → get_or scratch (base + s) 0 ≤ s
  pub related : (s : ℕ) → s < n → R (get_or scratch (base + s) 0) s
  pub least : (s t : ℕ) → s < n → t < get_or scratch (base + s) 0 → R t s → ⊥
