-- The search for the least element with no number: all elements before the one at hand have one. Assumes nothing.
use Prim.Native.Nat.{ℕ, ◌+◌, ◌≤◌, ◌<◌}
use mathlib.Core.Path.{◌≡◌}
use mathlib.Core.List.{List}
use native.Mathlib.Omega.{arith}
use borrow.Author.Count.{below_more}
use lib.ListN.{get_or}
use Rattle.rule_reach.specs.Reach.{place_at, FirstWithout, NoneWithout}

module _ {queue : List ℕ} where
  -- no element is before the first
  pub without_start : NoneWithout queue 0
  without_start = record { have = λ s h. absurd (omega arith) }

  -- the element has a number
  pub without_next : {s : ℕ} → NoneWithout queue s → (get_or queue (192 + s) 0 ≡ 0 → ⊥) → NoneWithout queue (s + 1)
  unfolding place_at
  without_next {s} w d = record { have = below_more (λ t. 0 < place_at queue t) s w.have (omega arith) }

  -- the element has none
  pub without_found : {n s : ℕ} → NoneWithout queue s → s < n → get_or queue (192 + s) 0 ≡ 0 → FirstWithout queue n s
  unfolding place_at
  without_found w h e = record { below = h; without = e; first = w.have }

  -- all elements were passed
  pub without_all : {n s : ℕ} → NoneWithout queue s → n ≤ s → NoneWithout queue n
  without_all w h = record { have = λ t l. w.have t (omega arith) }
