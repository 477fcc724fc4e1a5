-- A list that is filled with zeros from the front. Assumes nothing.
use Prim.Native.Nat.{ℕ, ◌+◌, ◌≤◌, ◌<◌}
use mathlib.Core.Path.{◌≡◌, ap, ◌∙◌}
use mathlib.Core.List.{List, ◌++◌, append-nil}
use native.Mathlib.Omega.{arith}
use borrow.Author.Fill.{fill_more}
use lib.ListN.{length, drop, set, replicate, length-append, length-drop, length-replicate}
use lib.Seq.{drop-length}

-- one more, and whole
module _ (d s : List ℕ) where
  pub filled_length : {i : ℕ} → s ≡ replicate i 0 ++ drop i d → i ≤ length d → length s ≡ length d
  filled_length e h = ap length e ∙ simp (length-append, length-replicate, length-drop) (omega arith)

  pub filled_more : {i : ℕ} → s ≡ replicate i 0 ++ drop i d → i < length d → set s i 0 ≡ replicate (i + 1) 0 ++ drop (i + 1) d
  filled_more {i} e h = ap (λ (l : List ℕ). set l i 0) e ∙ fill_more i 0 d h

  pub filled_all : {i end : ℕ} → s ≡ replicate i 0 ++ drop i d → end ≡ length d → end ≤ i → i ≤ length d → s ≡ replicate (length d) 0
  filled_all {i} e last past within =
      e ∙ ap (λ (n : ℕ). replicate n 0 ++ drop n d) (let z : i ≡ length d = omega arith in z)
      ∙ ap (λ (l : List ℕ). replicate (length d) 0 ++ l) (drop-length d) ∙ append-nil (replicate (length d) 0)
