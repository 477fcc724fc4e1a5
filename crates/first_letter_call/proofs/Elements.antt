-- The loops over letters, and the ways to a letter's element. Assumes nothing.
use Prim.Native.Nat.{ℕ, ◌+◌, ◌≤◌, ◌<◌}
use native.Mathlib.Omega.{arith}
use native.Mathlib.Decide.{ℕ_discrete}
use mathlib.Core.Path.{◌≡◌, refl, sym, ap, ap₂, subst, ◌∙◌}
use mathlib.Core.Bool.{Bool, true, false, cond}
use mathlib.Core.Logic.{◌≢◌}
use mathlib.Core.List.{List}
use lib.Dec.{T}
use lib.ListN.{length, get_or, set as stored, length-set}
use lib.Seq.{get_or-set_same, get_or-set_other}
use Rattle.finite.proofs.Tests.{true_T}
use Rattle.temporal_promises.specs.FirstLetter.{in_set}
use Rattle.first_letter_call.specs.Elements.{element_in, FirstForeign, FirstOther, ElementsFilled}

-- ---- the least letter that is foreign

-- no letter from `letters` on and before a is in the set
pub record NoForeign (letters set a : ℕ) : Type 0 where
  pub from : letters ≤ a
  pub none : (b : ℕ) → letters ≤ b → b < a → T (in_set set b) → ⊥

module _ {letters set : ℕ} where
  pub foreign_start : NoForeign letters set letters
  foreign_start = record { from = omega arith; none = λ b h l t. omega arith }

  module _ {a : ℕ} {b : Bool} (n : NoForeign letters set a) (h : a < 64) (e : b ≡ in_set set a) where
    pub foreign_here : b ≡ true → FirstForeign letters set a
    foreign_here q = record {
      here = λ l. record { foreign = n.from; is_in_set = true_T (sym e ∙ q); least = λ c h g. n.none c h g };
      nowhere = λ l. absurd (omega arith);
    }

    pub foreign_more : b ≡ false → NoForeign letters set (a + 1)
    foreign_more q = record { from = omega (arith, n.from); none = λ c l g t. go c l g (ℕ_discrete c a) t }
      where
        go : (c : ℕ) → letters ≤ c → c < a + 1 → Dec (c ≡ a) → T (in_set set c) → ⊥
        go c l g (yes d) t = subst T (ap (in_set set) d ∙ sym e ∙ q) t
        go c l g (no d) t = let d' : c ≢ a = d in n.none c l (omega arith) t

  pub foreign_none : {a : ℕ} → NoForeign letters set a → 64 ≤ a → FirstForeign letters set 64
  foreign_none n h = record { here = λ l. absurd (omega arith); nowhere = λ l c g k. n.none c g (omega arith) }

-- ---- a letter's element

pub element_told : (set a : ℕ) {b c p q : Bool} → b ≡ in_set set 0 → c ≡ in_set set a → b ≡ p → c ≡ q → cond p (cond q 0 1) (cond q 1 0) ≡ element_in set a
unfolding element_in
element_told set a e f g h = ap₂ (λ (x y : Bool). cond x (cond y 0 1) (cond y 1 0)) (sym g ∙ e) (sym h ∙ f)

-- ---- the least letter of the other element

-- the letters before a have the element 0
pub record NoOther (set k a : ℕ) : Type 0 where
  pub within : a ≤ k
  pub before : (c : ℕ) → c < a → element_in set c ≡ 0

-- an element is 0 or 1
pub element_two : (set a : ℕ) → (element_in set a ≡ 1 → ⊥) → element_in set a ≡ 0
unfolding element_in
element_two set a f = go (in_set set 0) (in_set set a) f
  where
    go : (b c : Bool) → (◌≡◌ {A = ℕ} (cond b (cond c 0 1) (cond c 1 0)) 1 → ⊥) → ◌≡◌ {A = ℕ} (cond b (cond c 0 1) (cond c 1 0)) 0
    go true true f = refl
    go true false f = absurd (f refl)
    go false true f = absurd (f refl)
    go false false f = refl

module _ {set k : ℕ} where
  pub other_start : NoOther set k 0
  other_start = record { within = omega arith; before = λ c h. absurd (omega arith) }

  module _ {a r : ℕ} (n : NoOther set k a) (h : a < k) (e : r ≡ element_in set a) where
    pub other_here : r ≡ 1 → FirstOther set k a
    other_here q = record { within = omega arith; before = n.before; here = λ l. sym e ∙ q }

    pub other_more : (r ≡ 1 → ⊥) → NoOther set k (a + 1)
    other_more f = record { within = omega arith; before = λ c l. go c l (ℕ_discrete c a) }
      where
        go : (c : ℕ) → c < a + 1 → Dec (c ≡ a) → element_in set c ≡ 0
        go c l (yes d) = ap (element_in set) d ∙ element_two set a (λ q. f (e ∙ q))
        go c l (no d) = let d' : c ≢ a = d in n.before c (omega arith)

  pub other_none : {a : ℕ} → NoOther set k a → k ≤ a → FirstOther set k k
  other_none n h = record { within = omega arith; before = λ c l. n.before c (omega arith); here = λ l. absurd (omega arith) }

-- ---- the elements of all letters

pub filled_start : (set : ℕ) {elements : List ℕ} → length elements ≡ 16 → ElementsFilled set 0 elements
filled_start set e = record { long = e; filled = λ a h. absurd (omega arith) }

pub filled_more : {set a r : ℕ} {elements : List ℕ} → ElementsFilled set a elements → a < 16 → r ≡ element_in set a → ElementsFilled set (a + 1) (stored elements a r)
filled_more {set} {a} {r} {elements} f h e = record { long = simp length-set f.long; filled = λ c l. go c l (ℕ_discrete c a) }
  where
    go : (c : ℕ) → c < a + 1 → Dec (c ≡ a) → get_or (stored elements a r) c 0 ≡ element_in set c
    go c l (yes d) = subst (λ (x : ℕ). get_or (stored elements a r) x 0 ≡ element_in set x) (sym d) (get_or-set_same elements a r 0 (omega (arith, f.long)) ∙ e)
    go c l (no d) = let d' : c ≢ a = d in get_or-set_other elements a c r 0 d' ∙ f.filled c (omega arith)

pub filled_all : {set a : ℕ} {elements : List ℕ} → ElementsFilled set a elements → 16 ≤ a → ElementsFilled set 16 elements
filled_all f h = record { long = f.long; filled = λ c l. f.filled c (omega arith) }
