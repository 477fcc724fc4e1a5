-- `all` over the numbers below a bound tells whether each has a property, if the answer of the closure tells it of one. Assumes nothing.
use Rattle.std.specs.Prelude.{Option}
use Rattle.std.specs.Bool.{MatchBool}
use Rattle.std.specs.Fn.{Called}
use Rattle.std.specs.Iterator.{YieldsThen}
use Rattle.std.specs.List.{range_with_len, FoldsTo, AllWithin, HoldsAt}
use Rattle.std.specs.Option.{MatchOption}
use Rattle.std.specs.declared.ops.Range.{Range}
use Rattle.std.proofs.iter.Yields.{nat_range_steps}
use Rattle.std.proofs.lemmas.Iterator.{YieldsList-from_range, cases_from_all}
use Rattle.std.proofs.lemmas.List.FromFn.{length-range_with_len, get_or-range_with_len}
use denote.Param.Members.{Mut}
use Prim.Native.Nat.{ℕ, ◌<◌}
use mathlib.Core.Path.{◌≡◌, refl, sym, subst, ◌∙◌}
use mathlib.Core.Bool.{Bool, true, false}
use mathlib.Core.List.{List}
use native.Mathlib.Omega.{arith}
use lib.ListN.{length, get_or}
use Rattle.finite.specs.Tells.{Tells}
use Rattle.finite.specs.Each.{EachBelow}
use Rattle.finite.proofs.Tells.{told_yes, told_no}

pub all_told : {F : Type 0} {g : Mut F (ℕ × Unit {0}) Bool} {P : ℕ → Type 0} {n : ℕ} {from : Range ℕ} (left : Range ℕ) (f : F) (answer : Bool)
    → from ≡ record { start = 0; end = n }
    → (xs : List ℕ) × (o : Option ℕ) × (j : F) × YieldsThen nat_range_steps from xs o left × FoldsTo (λ p x q. Called g p (x, tt) true q) f xs j
    × MatchOption o (answer ≡ true) (λ x. (answer ≡ false) × ((h : F) × Called g j (x, tt) false h))
    → ((x : ℕ) (b : Bool) (q : F) → Called g f (x, tt) b q → (q ≡ f) × Tells (P x) b) → Tells (EachBelow P n) answer
all_told {P = P} {n} left f answer e ran told =
    go answer (cases_from_all left f answer P (λ x. P x → ⊥) ran (YieldsList-from_range 0 n n e (omega arith))
    (λ x q k. let t = told x true q k in (t.0, t.1.holds refl)) (λ x q k. (told x false q k).1.fails refl))
  where
    at : (i : ℕ) → i < n → get_or (range_with_len 0 n) i 0 ≡ i
    at i h = get_or-range_with_len 0 n i 0 h ∙ omega arith

    go : (b : Bool) → MatchBool b (AllWithin P (range_with_len 0 n) 0 (length (range_with_len 0 n)))
        ((k : ℕ) × (k < length (range_with_len 0 n)) × HoldsAt (λ x. P x → ⊥) (range_with_len 0 n) k) → Tells (EachBelow P n) b
    go true a = told_yes (record { each = λ i h. subst P (at i h) (a i 0 (omega arith) (omega (arith, length-range_with_len 0 n))) })
    go false a =
        let h : a.0 < n = let l = a.1 in omega (arith, length-range_with_len 0 n) in
        told_no (λ w. a.2 0 (subst P (sym (at a.0 h)) (w.each a.0 h)))
