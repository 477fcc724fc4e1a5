-- The numbering by first words leaves no choice: where two tables numbered so are renumberings of one another, each element keeps its
-- number. Assumes nothing.
use Prim.Native.Nat.{ℕ, zero, suc, ◌+◌, ◌-◌, ◌≤◌, ◌<◌}
use mathlib.Core.Path.{◌≡◌, sym, ap, ◌∙◌, subst}
use mathlib.Core.Logic.{inl, inr}
use mathlib.Core.List.{List}
use native.Mathlib.Omega.{arith}
use native.Mathlib.Decide.{ℕ_discrete}
use Rattle.finite.proofs.Numbers.{Compared, lesser, level, greater, compared_numbers}
use Rattle.finite.specs.Shortlex.{Before, NotAfter}
use Rattle.finite.proofs.Shortlex.{before_irrefl, before_trans}
use Rattle.theory.specs.Words.{Over}
use Rattle.theory.specs.Rules.{Morphism, Lawful}
use Rattle.theory.specs.Smallest.{Renumbered}
use Rattle.theory.proofs.Carried.{renamed, renumbered_value, value_back}
use Rattle.formats.specs.FirstWords.{ByFirstWords}

-- two words neither of which stands after the other are one
not_after_both : {u v : List ℕ} → NotAfter u v → NotAfter v u → u ≡ v
not_after_both (inl e) q = e
not_after_both (inr b) (inl e) = sym e
not_after_both (inr b) (inr c) = absurd (before_irrefl (before_trans b c))

-- a map of the numbers below n that keeps their order climbs at least as fast as they do, and so is the identity
module _ (f : ℕ → ℕ) (n : ℕ) (keeps : (s t : ℕ) → s < t → t < n → f s < f t) (inside : (s : ℕ) → s < n → f s < n) where
  climbs : (s t : ℕ) → s ≤ t → t < n → f s + (t - s) ≤ f t
  climbs s zero h l = let e : s ≡ 0 = omega arith in subst (λ (x : ℕ). f x + (0 - x) ≤ f 0) (sym e) (omega arith)
  climbs s (suc t) h l = go (λ g. climbs s t g (omega arith)) (ℕ_discrete s (suc t))
    where
      go : (s ≤ t → f s + (t - s) ≤ f t) → Dec (s ≡ suc t) → f s + (suc t - s) ≤ f (suc t)
      go before (yes e) = subst (λ (x : ℕ). f x + (suc t - x) ≤ f (suc t)) (sym e) (omega arith)
      go before (no d) = omega (arith, before (omega arith), keeps t (suc t) (omega arith) l)

  order_fixes : (s : ℕ) → s < n → f s ≡ s
  order_fixes s h = omega (arith, climbs 0 s (omega arith) h, climbs s (n - 1) (omega arith) (omega arith), inside (n - 1) (omega arith))

module _ {a b : Morphism} (law : Lawful a) (f : Renumbered a b) where
  over_too : {w : List ℕ} → Over a.letters w → Over b.letters w
  over_too {w} o = subst (λ k. Over k w) f.same_letters o

  over_back : {w : List ℕ} → Over b.letters w → Over a.letters w
  over_back {w} o = subst (λ k. Over k w) (sym f.same_letters) o

  module _ (p : ByFirstWords a) (q : ByFirstWords b) where
    -- the first word of an element is that of its number in the other table
    same_word : (s : ℕ) → s < a.size → p.word s ≡ q.word (f.to s)
    unfolding renamed
    same_word s h =
        let left = p.first s h in
        let right = q.first (f.to s) (f.inside s h) in
        let o = over_back right.over in
        not_after_both
        (left.least (q.word (f.to s)) o (value_back law f h o right.its_value))
        (right.least (p.word s) (over_too left.over) (renumbered_value law f left.over ∙ ap (renamed f.to) left.its_value))

    keeps_order : (s t : ℕ) → s < t → t < a.size → f.to s < f.to t
    keeps_order s t h l = go (compared_numbers (f.to s) (f.to t))
      where
        before : Before (p.word s) (p.word t)
        before = p.increasing s t h l

        after : f.to t < f.to s → Before (p.word t) (p.word s)
        after g = rw (same_word s (omega arith), same_word t l) (q.increasing (f.to t) (f.to s) g (f.inside s (omega arith)))

        go : Compared (f.to s) (f.to t) → f.to s < f.to t
        go (lesser g) = g
        go (level e) = let d : s ≡ t = f.one_to_one s t (omega arith) l e in absurd (omega arith)
        go (greater g) = absurd (before_irrefl (before_trans before (after g)))

    pub renumbered_same : a.size ≡ b.size → (s : ℕ) → s < a.size → f.to s ≡ s
    renumbered_same e s h = order_fixes f.to a.size keeps_order (λ t l. omega (arith, f.inside t l)) s h
