-- Boolean tests read as facts: `T b` through &&, || and not, and a decision as a test.
-- The tests on numbers are lib.Dec's: leb→le, le→leb, ltb→lt, lt→ltb, eqb→eq, and mir.Facts' yes-eqb.
-- Assumes nothing.
use mathlib.Core.Path.{◌≡◌, refl, subst, sym}
use mathlib.Core.Bool.{Bool, true, false, not, ◌&&◌, ◌||◌}
use mathlib.Core.Logic.{◌⊎◌, inl, inr}
use lib.Dec.{T}

-- conjunction
pub T_and : (a b : Bool) → T a → T b → T (a && b)
T_and true b s t = t
T_and false b s t = s

pub T_and_left : (a b : Bool) → T (a && b) → T a
T_and_left true b t = tt
T_and_left false b t = t

pub T_and_right : (a b : Bool) → T (a && b) → T b
T_and_right true b t = t
T_and_right false b t = absurd t

-- disjunction
pub T_or_left : (a b : Bool) → T a → T (a || b)
T_or_left true b t = tt
T_or_left false b t = absurd t

pub T_or_right : (a b : Bool) → T b → T (a || b)
T_or_right true b t = tt
T_or_right false b t = t

pub T_or_cases : (a b : Bool) → T (a || b) → T a ⊎ T b
T_or_cases true b t = inl tt
T_or_cases false b t = inr t

-- negation
pub T_not : (b : Bool) → ¬ T b → T (not b)
T_not true h = absurd (h tt)
T_not false h = tt

pub not_T : (b : Bool) → T (not b) → ¬ T b
not_T true t s = t
not_T false t s = s

-- a test passes or fails
pub T_dec : (b : Bool) → T b ⊎ ¬ T b
T_dec true = inl tt
T_dec false = inr (λ t. t)

-- a test's value against the fact
pub true_T : {b : Bool} → b ≡ true → T b
true_T e = subst T (sym e) tt

pub T_true : (b : Bool) → T b → b ≡ true
T_true true t = refl
T_true false t = absurd t

pub T_false : (b : Bool) → ¬ T b → b ≡ false
T_false true h = absurd (h tt)
T_false false h = refl

-- two tests that imply one another are equal
pub tests_equal : (a b : Bool) → (T a → T b) → (T b → T a) → a ≡ b
tests_equal true b f g = sym (T_true b (f tt))
tests_equal false true f g = absurd (g tt)
tests_equal false false f g = refl

-- a decision as a test
unfoldable pub decide : {P : Type 0} → Dec P → Bool
decide (yes p) = true
decide (no h) = false

pub decide_intro : {P : Type 0} (d : Dec P) → P → T (decide d)
unfolding decide
decide_intro (yes p) q = tt
decide_intro (no h) q = h q

pub decide_elim : {P : Type 0} (d : Dec P) → T (decide d) → P
unfolding decide
decide_elim (yes p) t = p
decide_elim (no h) t = absurd t
