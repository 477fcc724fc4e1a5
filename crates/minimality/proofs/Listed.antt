-- The numbers below n that pass a test, as a list in increasing order. Assumes nothing.
use Prim.Native.Nat.{ℕ, zero, suc, ◌<◌}
use native.Mathlib.Nat.{not-suc-le-zero}
use native.Mathlib.Omega.{arith}
use mathlib.Core.Path.{◌≡◌, refl, sym, subst, ap, ◌∙◌}
use mathlib.Core.Bool.{Bool, true, false, cond}
use mathlib.Core.Logic.{⊎_elim}
use mathlib.Core.List.{List, [], ◌∷◌, ◌++◌}
use lib.Dec.{T}
use lib.ListN.{length, get_or, length-append, get_or-append}
use lib.Seq.{get_or-append_seam}
use Rattle.finite.proofs.Tests.{true_T}
use Rattle.finite.proofs.Numbers.{below_cases, Compared, lesser, level, greater, compared_numbers}
use Rattle.finite.proofs.Search.{count_below, count_zero, count_suc, bit}

-- the numbers below n that pass p
unfoldable pub passing : ℕ → (ℕ → Bool) → List ℕ
passing zero p = []
passing (suc n) p =
    let rest = passing n p in
    cond (p n) (rest ++ (n ∷ [])) rest

-- where s stands in the list
pub record Holds (l : List ℕ) (s : ℕ) : Type 0 where
  pub index : ℕ
  pub inside : index < length l
  pub entry : get_or l index 0 ≡ s

-- the list holds exactly the numbers below n that pass p, in increasing order
pub record Listed (n : ℕ) (p : ℕ → Bool) (l : List ℕ) : Type 0 where
  pub count : length l ≡ count_below n p
  pub below : (i : ℕ) → i < length l → get_or l i 0 < n
  pub passes : (i : ℕ) → i < length l → T (p (get_or l i 0))
  pub increasing : (i j : ℕ) → i < j → j < length l → get_or l i 0 < get_or l j 0
  pub each : (s : ℕ) → s < n → T (p s) → Holds l s

-- an entry of a list with one more at its end
data Entry (l : List ℕ) (a i : ℕ) : Type 0 where
  old : i < length l → get_or (l ++ (a ∷ [])) i 0 ≡ get_or l i 0 → Entry l a i
  new : i ≡ length l → get_or (l ++ (a ∷ [])) i 0 ≡ a → Entry l a i

length_more : (l : List ℕ) (a : ℕ) → length (l ++ (a ∷ [])) ≡ suc (length l)
length_more l a = simp length-append (omega arith)

entry_of : (l : List ℕ) (a i : ℕ) → i < length (l ++ (a ∷ [])) → Entry l a i
entry_of l a i h =
    let h' : i < suc (length l) = omega (arith, length_more l a) in
    ⊎_elim (λ e. new e (rw e (get_or-append_seam l a [] 0)))
    (λ k. old k (get_or-append l (a ∷ []) 0 i k)) (below_cases h')

holds_more : {l : List ℕ} {s : ℕ} (a : ℕ) → Holds l s → Holds (l ++ (a ∷ [])) s
holds_more {l} a w = record {
  index = w.index;
  inside = omega (arith, length_more l a, w.inside);
  entry = get_or-append l (a ∷ []) 0 w.index w.inside ∙ w.entry;
}

holds_last : (l : List ℕ) (a : ℕ) → Holds (l ++ (a ∷ [])) a
holds_last l a = record { index = length l; inside = omega (arith, length_more l a); entry = get_or-append_seam l a [] 0 }

module _ (n : ℕ) (p : ℕ → Bool) (l : List ℕ) (g : Listed n p l) where
  module _ (t : p n ≡ true) where
    more_below : (i : ℕ) → Entry l n i → get_or (l ++ (n ∷ [])) i 0 < suc n
    more_below i (old h e) = omega (arith, g.below i h)
    more_below i (new h e) = omega arith

    more_passes : (i : ℕ) → Entry l n i → T (p (get_or (l ++ (n ∷ [])) i 0))
    more_passes i (old h e) = rw e (g.passes i h)
    more_passes i (new h e) = rw e (true_T t)

    more_increasing : (i j : ℕ) → i < j → Entry l n i → Entry l n j → get_or (l ++ (n ∷ [])) i 0 < get_or (l ++ (n ∷ [])) j 0
    more_increasing i j o (old h e) (old h' e') = omega (arith, g.increasing i j o h')
    more_increasing i j o (old h e) (new h' e') = omega (arith, g.below i h)
    more_increasing i j o (new h e) (old h' e') = absurd (omega arith)
    more_increasing i j o (new h e) (new h' e') = absurd (omega arith)

    listed_more : Listed (suc n) p (l ++ (n ∷ []))
    listed_more = record {
      count = omega (arith, length_more l n, g.count, count_suc n p, ap bit t);
      below = λ i h. more_below i (entry_of l n i h);
      passes = λ i h. more_passes i (entry_of l n i h);
      increasing = λ i j o h. more_increasing i j o (entry_of l n i (omega arith)) (entry_of l n j h);
      each = λ s h q.
          ⊎_elim (λ (e : s ≡ n). subst (Holds (l ++ (n ∷ []))) (sym e) (holds_last l n)) (λ k. holds_more n (g.each s k q)) (below_cases h);
    }

  listed_same : p n ≡ false → Listed (suc n) p l
  listed_same f = record {
    count = omega (arith, g.count, count_suc n p, ap bit f);
    below = λ i h. omega (arith, g.below i h);
    passes = g.passes;
    increasing = g.increasing;
    each = λ s h q. ⊎_elim (λ (e : s ≡ n). absurd (subst T (ap p e ∙ f) q)) (λ k. g.each s k q) (below_cases h);
  }

  listed_next : (v : Bool) → p n ≡ v → Listed (suc n) p (cond v (l ++ (n ∷ [])) l)
  listed_next true t = listed_more t
  listed_next false f = listed_same f

pub listed : (n : ℕ) (p : ℕ → Bool) → Listed n p (passing n p)
unfolding passing
listed zero p = record {
  count = sym (count_zero p);
  below = λ i h. absurd (not-suc-le-zero h);
  passes = λ i h. absurd (not-suc-le-zero h);
  increasing = λ i j o h. absurd (not-suc-le-zero h);
  each = λ s h q. absurd (not-suc-le-zero h);
}
listed (suc n) p = listed_next n p (passing n p) (listed n p) (p n) refl

-- equal entries stand at one place
pub entries_distinct : {n : ℕ} {p : ℕ → Bool} {l : List ℕ} → Listed n p l → (i j : ℕ) → i < length l → j < length l → get_or l i 0 ≡ get_or l j 0 → i ≡ j
entries_distinct {l = l} g i j hi hj e = go (compared_numbers i j)
  where
    go : Compared i j → i ≡ j
    go (lesser o) = absurd (omega (arith, g.increasing i j o hj))
    go (level q) = q
    go (greater o) = absurd (omega (arith, g.increasing j i o hi))
