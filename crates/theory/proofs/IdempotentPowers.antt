-- Every element of a lawful table has an idempotent power with an exponent 1 to n, and the least such exponent is one.
-- Assumes nothing.
use Prim.Native.Nat.{ℕ, zero, suc, ◌+◌, ◌≤◌, ◌<◌}
use mathlib.Core.Path.{◌≡◌, refl, sym, ap, subst, ◌∙◌}
use mathlib.Core.List.{List}
use mathlib.Core.Logic.{◌⊎◌, inl, inr}
use native.Mathlib.Omega.{arith}
use native.Mathlib.Numerals.{add-one}
use Rattle.finite.proofs.Numbers.{le_or_lt, Compared, lesser, level, greater, compared_numbers}
use Rattle.theory.specs.Rules.{Morphism, Lawful}
use Rattle.theory.specs.PowersTheorem.{PowersTheorem}
use Rattle.theory.specs.Pairs.{Idempotent, power, HasIdempotentPower, LeastExponent, LeastPower, TurnsOf}
use Rattle.theory.proofs.Powers.{times, times_inside, idempotent_power, settling, idempotent_of, settling_below, settling_least, idempotent_square, idempotent_inside, idempotent_is}
use Rattle.theory.proofs.Conjugacy.{semigroup}
use Rattle.theory.proofs.Values.{element_same}

-- a power, written by factors as the theory of powers does
pub power_times : (m : Morphism) (x i : ℕ) → power m x i ≡ times m.product x x i
unfolding power times
power_times m x zero = refl
power_times m x (suc i) = ap (λ (y : ℕ). m.product y x) (power_times m x i)

-- a power with one factor more
pub power_add_one : (m : Morphism) (x i : ℕ) → power m x (i + 1) ≡ m.product (power m x i) x
unfolding power
power_add_one m x i = rw add-one

-- an idempotent power's square, written by factors
power_square : (m : Morphism) (x i : ℕ) → Idempotent m (power m x i)
    → m.product (times m.product x x i) (times m.product x x i) ≡ times m.product x x i
power_square m x i d = subst (λ (y : ℕ). m.product y y ≡ y) (power_times m x i) d.square

-- the power found is the idempotent power, and its exponent is the least
pub record IsSettling (m : Morphism) (x e exponent : ℕ) : Type 0 where
  pub is_power : e ≡ idempotent_of m.size m.product x
  pub is_exponent : exponent ≡ settling m.size m.product x + 1

module _ {m : Morphism} {x : ℕ} (law : Lawful m) (hx : x < m.size) where
  -- in an associative finite table every element has an idempotent among its first n powers
  pub every_idempotent_power : HasIdempotentPower m x
  every_idempotent_power =
      let p = idempotent_power (semigroup law) hx in
      record {
        index = p.index;
        below = p.below;
        idempotent = rw power_times (record { inside = times_inside (semigroup law) hx hx p.index; square = p.square });
      }

  -- the power with the least exponent that makes it its own square is idempotent
  pub settling_idempotent : Idempotent m (power m x (settling m.size m.product x))
  unfolding idempotent_of
  settling_idempotent = rw power_times (record {
    inside = idempotent_inside (semigroup law) hx;
    square = idempotent_square (semigroup law) hx;
  })

  -- while no power with an index below i is idempotent, i is below n
  pub none_idempotent_below : {i : ℕ} → ((j : ℕ) → j < i → Idempotent m (power m x j) → ⊥) → i < m.size
  none_idempotent_below {i} none = go (le_or_lt i (settling m.size m.product x))
    where
      go : (i ≤ settling m.size m.product x) ⊎ (settling m.size m.product x < i) → i < m.size
      go (inl h) = omega (arith, settling_below (semigroup law) hx)
      go (inr h) = absurd (none (settling m.size m.product x) h settling_idempotent)

  -- what a search found is the idempotent power, at its least exponent
  pub least_power_is : {e exponent : ℕ} → LeastPower m x e exponent → IsSettling m x e exponent
  least_power_is {e} {exponent} l = record {
    is_power = l.is_power ∙ power_times m x l.exponent_is.index ∙ idempotent_is (semigroup law) hx l.exponent_is.index square;
    is_exponent = go (le_or_lt l.exponent_is.index (settling m.size m.product x));
  }
    where
      square : m.product (times m.product x x l.exponent_is.index) (times m.product x x l.exponent_is.index) ≡ times m.product x x l.exponent_is.index
      square = power_square m x l.exponent_is.index l.exponent_is.idempotent

      go : (l.exponent_is.index ≤ settling m.size m.product x) ⊎ (settling m.size m.product x < l.exponent_is.index)
          → exponent ≡ settling m.size m.product x + 1
      go (inl h) = omega (arith, l.exponent_is.is_exponent, settling_least (semigroup law) hx l.exponent_is.index square)
      go (inr h) = absurd (l.exponent_is.least (settling m.size m.product x) h settling_idempotent)

-- the power that was found is idempotent
pub least_power_idempotent : {m : Morphism} {x e exponent : ℕ} → LeastPower m x e exponent → Idempotent m e
least_power_idempotent {m} l = subst (Idempotent m) (sym l.is_power) l.exponent_is.idempotent

-- there is one least exponent
pub one_exponent : {m : Morphism} {x exponent exponent' : ℕ} → LeastExponent m x exponent → LeastExponent m x exponent' → exponent ≡ exponent'
one_exponent {exponent = exponent} {exponent'} a b = go (compared_numbers a.index b.index)
  where
    go : Compared a.index b.index → exponent ≡ exponent'
    go (lesser h) = absurd (b.least a.index h a.idempotent)
    go (level e) = omega (arith, a.is_exponent, b.is_exponent)
    go (greater h) = absurd (a.least b.index h b.idempotent)

-- and one number of turns
pub one_turns : {m : Morphism} {v : List ℕ} {turns turns' : ℕ} → TurnsOf m v turns → TurnsOf m v turns' → turns ≡ turns'
one_turns {m} {turns' = turns'} a b =
    let same : b.cycle ≡ a.cycle = element_same (sym b.cycle_value ∙ a.cycle_value) in
    one_exponent a.turns_are (subst (λ (x : ℕ). LeastExponent m x turns') same b.turns_are)

pub powers_theorem : PowersTheorem
powers_theorem = record { settles = λ m law x hx. every_idempotent_power law hx }
