-- Values of words as numbers: an element below the size n is its own code, and n stands for none. The code can be read back.
-- Here too is a test that two values are equal. Assumes nothing.
use Prim.Native.Nat.{ℕ, ◌+◌, ◌<◌}
use mathlib.Core.Path.{◌≡◌, refl, ap, subst}
use mathlib.Core.Bool.{Bool, true, false, cond}
use native.Mathlib.Omega.{arith}
use lib.Dec.{T, eqb, ltb}
use mir.Facts.{eqb_yes, yes_eqb}
use borrow.Author.Tests.{ltb-true, lt-ltb, le-ltb}
use Rattle.finite.proofs.Explore.{Equality}
use Rattle.theory.specs.Rules.{Morphism, Value, none, element}
use Rattle.theory.proofs.Values.{Inside, inside_none, inside_element}

-- the two values are equal
unfoldable pub same_value : Value → Value → Bool
same_value none none = true
same_value none (element t) = false
same_value (element s) none = false
same_value (element s) (element t) = eqb s t

same_sound : (x y : Value) → T (same_value x y) → x ≡ y
unfolding same_value
same_sound none none t = refl
same_sound none (element r) t = absurd t
same_sound (element s) none t = absurd t
same_sound (element s) (element r) t = ap element (eqb_yes t)

same_itself : (x : Value) → T (same_value x x)
unfolding same_value
same_itself none = tt
same_itself (element s) = yes_eqb {a = s} refl

pub value_equality : Equality same_value
value_equality = record { sound = same_sound; complete = λ x y e. subst (λ z. T (same_value x z)) e (same_itself x) }

-- the number of a value
unfoldable pub value_code : ℕ → Value → ℕ
value_code n none = n
value_code n (element s) = s

-- the value with this number
unfoldable pub value_coded : ℕ → ℕ → Value
value_coded n c = cond (ltb c n) (element c) none

pub value_code_below : {m : Morphism} {x : Value} → Inside m x → value_code m.size x < m.size + 1
unfolding value_code
value_code_below inside_none = omega arith
value_code_below (inside_element h) = omega arith

pub value_at_code : {m : Morphism} {x : Value} → Inside m x → value_coded m.size (value_code m.size x) ≡ x
unfolding value_code value_coded
value_at_code {m} inside_none = rw (le-ltb m.size m.size (omega arith))
value_at_code {m} (inside_element {s} h) = rw (lt-ltb s m.size h)

pub value_at_inside : (m : Morphism) (c : ℕ) → Inside m (value_coded m.size c)
unfolding value_coded
value_at_inside m c = go (ltb c m.size) refl
  where
    go : (b : Bool) → ltb c m.size ≡ b → Inside m (cond b (element c) none)
    go true e = inside_element (ltb-true c m.size e)
    go false e = inside_none
