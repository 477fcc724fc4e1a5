-- The part that is left in numbers, on each way. Assumes nothing.
use Prim.Native.Nat.{ℕ, ◌-◌, ◌%◌, ◌≤◌, ◌<◌}
use mathlib.Core.Path.{◌≡◌, refl, sym, ◌∙◌, subst}
use mathlib.Core.Bool.{Bool, true, false, ◌&&◌}
use mathlib.Core.List.{List}
use borrow.Author.Tests.{lt-ltb, le-ltb}
use lib.Dec.{T, leb, leb→le}
use lib.ListN.{length, drop, length-drop}
use Rattle.promises.specs.Stretch.{word_fits, lasso_fits, unread, stretch_of, stretch_numbers}
use Rattle.formats.specs.WordChecks.{shortest_start, shortest_cycle, longest_word}

pub both_true : (a b : Bool) → a && b ≡ true → (a ≡ true) × (b ≡ true)
both_true true true e = (refl, refl)
both_true true false e = (refl, e)
both_true false b e = (e, absurd (subst T (sym e) tt))

module _ (u v : List ℕ) (at : ℕ) where
  -- a cycle that is taken has a letter
  pub cycle_some : lasso_fits u v ≡ true → 1 ≤ length v
  cycle_some e =
      let cycle = (both_true (word_fits shortest_start u) (word_fits shortest_cycle v) e).1 in
      leb→le 1 (length v) (subst T (sym (both_true (leb 1 (length v)) (leb (length v) longest_word) cycle).0) tt)

  -- nothing is left of lengths that are refused
  pub numbers_none : lasso_fits u v ≡ false → record { word = 1; from = 0; letters = 0 } ≡ stretch_numbers u v at
  unfolding stretch_numbers stretch_of
  numbers_none f =
      let word : (stretch_numbers u v at).word ≡ 1 = simp f in
      let from : (stretch_numbers u v at).from ≡ 0 = simp f in
      let letters : (stretch_numbers u v at).letters ≡ 0 = simp f in
      λ i. record { word = sym word i; from = sym from i; letters = sym letters i }

  -- something of u, or of v
  pub numbers_start : lasso_fits u v ≡ true → at < length u → record { word = 1; from = at; letters = length u - at } ≡ stretch_numbers u v at
  unfolding stretch_numbers stretch_of unread
  numbers_start f h =
      let inside = lt-ltb at (length u) h in
      let word : (stretch_numbers u v at).word ≡ 1 = simp (f, inside) in
      let from : (stretch_numbers u v at).from ≡ at = simp (f, inside) in
      let letters : (stretch_numbers u v at).letters ≡ length (drop at u) = simp (f, inside) in
      λ i. record { word = sym word i; from = sym from i; letters = (sym (length-drop at u) ∙ sym letters) i }

  pub numbers_cycle : lasso_fits u v ≡ true → length u ≤ at
      → record { word = 2; from = (at - length u) % length v; letters = length v - (at - length u) % length v } ≡ stretch_numbers u v at
  unfolding stretch_numbers stretch_of unread
  numbers_cycle f h =
      let past = le-ltb at (length u) h in
      let word : (stretch_numbers u v at).word ≡ 2 = simp (f, past) in
      let from : (stretch_numbers u v at).from ≡ (at - length u) % length v = simp (f, past) in
      let letters : (stretch_numbers u v at).letters ≡ length (drop ((at - length u) % length v) v) = simp (f, past) in
      λ i. record { word = sym word i; from = sym from i; letters = (sym (length-drop ((at - length u) % length v) v) ∙ sym letters) i }
