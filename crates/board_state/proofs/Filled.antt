-- An array filled name by name is the list of its entries. Assumes nothing.
use Prim.Native.Nat.{ℕ, zero, suc, ◌+◌, ◌≤◌, ◌<◌}
use mathlib.Core.Path.{◌≡◌, refl, sym, ap, ◌∙◌}
use mathlib.Core.Logic.{◌⊎◌, inl, inr}
use mathlib.Core.List.{List}
use native.Mathlib.Omega.{arith}
use lib.ListN.{length, get_or, set, replicate, length-set, length-replicate}
use lib.Seq.{get_or-set_same, get_or-set_other, ext_get_or}
use Rattle.finite.proofs.Numbers.{below_cases}
use Rattle.board_promises.specs.Boards.{board_names_count}
use Rattle.board_state.specs.State.{each_name}

-- what holds of 0 to 7 holds of each name
pub each_below : (P : ℕ → Type 0) → P 0 → P 1 → P 2 → P 3 → P 4 → P 5 → P 6 → P 7 → (i : ℕ) → i < board_names_count → P i
each_below P p0 p1 p2 p3 p4 p5 p6 p7 zero h = p0
each_below P p0 p1 p2 p3 p4 p5 p6 p7 (suc zero) h = p1
each_below P p0 p1 p2 p3 p4 p5 p6 p7 (suc (suc zero)) h = p2
each_below P p0 p1 p2 p3 p4 p5 p6 p7 (suc (suc (suc zero))) h = p3
each_below P p0 p1 p2 p3 p4 p5 p6 p7 (suc (suc (suc (suc zero)))) h = p4
each_below P p0 p1 p2 p3 p4 p5 p6 p7 (suc (suc (suc (suc (suc zero))))) h = p5
each_below P p0 p1 p2 p3 p4 p5 p6 p7 (suc (suc (suc (suc (suc (suc zero)))))) h = p6
each_below P p0 p1 p2 p3 p4 p5 p6 p7 (suc (suc (suc (suc (suc (suc (suc zero))))))) h = p7
each_below P p0 p1 p2 p3 p4 p5 p6 p7 (suc (suc (suc (suc (suc (suc (suc (suc i)))))))) h = absurd (omega arith)

-- the entries of the first names are there
pub record Filled {A : Type 0} (f : ℕ → A) (d : A) (l : List A) (count : ℕ) : Type 0 where
  pub whole : length l ≡ board_names_count
  pub done : (j : ℕ) → j < count → get_or l j d ≡ f j

module _ {A : Type 0} (f : ℕ → A) (d : A) where
  pub each_at : (j : ℕ) → j < board_names_count → get_or (each_name f) j d ≡ f j
  each_at = each_below (λ (j : ℕ). get_or (each_name f) j d ≡ f j) refl refl refl refl refl refl refl refl

  pub filled_none : (x : A) → Filled f d (replicate 8 x) 0
  filled_none x = record { whole = length-replicate 8 x; done = λ j h. absurd (omega arith) }

  pub filled_more : {l : List A} {i : ℕ} {v : A} → Filled f d l i → i < board_names_count → v ≡ f i → Filled f d (set l i v) (i + 1)
  filled_more {l} {i} {v} p h e = record { whole = length-set l i v ∙ p.whole; done = λ j less. at j (below_cases {i = j} {n = i} (omega arith)) }
    where
      at : (j : ℕ) → (j ≡ i) ⊎ (j < i) → get_or (set l i v) j d ≡ f j
      at j (inl same) = ap (λ (k : ℕ). get_or (set l i v) k d) same ∙ get_or-set_same l i v d (omega (arith, p.whole)) ∙ e ∙ ap f (sym same)
      at j (inr less) = get_or-set_other l i j v d (λ same. omega arith) ∙ p.done j less

  pub filled_all : {l : List A} {i : ℕ} → Filled f d l i → board_names_count ≤ i → l ≡ each_name f
  filled_all {l} p h = ext_get_or d l (each_name f) p.whole (λ j less. p.done j (omega (arith, p.whole)) ∙ sym (each_at j (omega (arith, p.whole))))
