-- Powers in a finite semigroup: the elements are the numbers below n. `times ◌·◌ s t i` is s followed by i factors t, so
-- the power with exponent i + 1 is `times ◌·◌ t t i`. Assumes nothing.
use Prim.Native.Nat.{ℕ, zero, suc, ◌+◌, ◌*◌, ◌-◌, ◌/◌, ◌%◌, ◌≤◌, ◌<◌}
use mathlib.Core.Path.{◌≡◌, refl, sym, ap, ◌∙◌}
use native.Mathlib.Omega.{arith}
use native.Mathlib.Nat.{add-zero, add-suc, div-add-mod, mod-lt}
use mathlib.Core.Bool.{Bool}
use mathlib.Core.Logic.{⊎_elim}
use Rattle.finite.proofs.Numbers.{le_or_lt}
use lib.Dec.{eqb}
use mir.Facts.{eqb_yes, yes_eqb}
use Rattle.finite.proofs.Search.{least_below, least_bound, least_holds, least_first}
use Rattle.finite.proofs.Pigeonhole.{Collision, pigeonhole}

-- s·t^i
unfoldable pub times : (ℕ → ℕ → ℕ) → ℕ → ℕ → ℕ → ℕ
times ◌·◌ s t zero = s
times ◌·◌ s t (suc i) = ◌·◌ (times ◌·◌ s t i) t

-- a product that is closed and associative below n
pub record Semigroup (n : ℕ) (◌·◌ : ℕ → ℕ → ℕ) : Type 0 where
  pub closed : (a b : ℕ) → a < n → b < n → ◌·◌ a b < n
  pub associative : (a b c : ℕ) → a < n → b < n → c < n → ◌·◌ (◌·◌ a b) c ≡ ◌·◌ a (◌·◌ b c)

module _ {n : ℕ} {◌·◌ : ℕ → ℕ → ℕ} (law : Semigroup n ◌·◌) where
  infixl 70 ◌·◌
  pub times_inside : {s t : ℕ} → s < n → t < n → (i : ℕ) → times ◌·◌ s t i < n
  unfolding times
  times_inside hs ht zero = hs
  times_inside {s} {t} hs ht (suc i) = law.closed (times ◌·◌ s t i) t (times_inside hs ht i) ht

  -- s·t^i·t^j = s·t^(i+j)
  pub times_add : (s t i j : ℕ) → times ◌·◌ (times ◌·◌ s t i) t j ≡ times ◌·◌ s t (i + j)
  unfolding times
  times_add s t i zero = rw add-zero
  times_add s t i (suc j) = rw add-suc (ap (λ (x : ℕ). x · t) (times_add s t i j))

  -- r·(s·t^i) = (r·s)·t^i
  pub times_left : {r s t : ℕ} → r < n → s < n → t < n → (i : ℕ) → r · times ◌·◌ s t i ≡ times ◌·◌ (r · s) t i
  unfolding times
  times_left hr hs ht zero = refl
  times_left {r} {s} {t} hr hs ht (suc i) =
      sym (law.associative r (times ◌·◌ s t i) t hr (times_inside hs ht i) ht)
      ∙ ap (λ (x : ℕ). x · t) (times_left hr hs ht i)

  -- s·t^(i+1), with the power taken first
  pub times_power : {s t : ℕ} → s < n → t < n → (i : ℕ) → s · times ◌·◌ t t i ≡ times ◌·◌ s t (suc i)
  unfolding times
  times_power {s} {t} hs ht i =
      times_left hs ht ht i ∙ times_add s t 1 i ∙ ap (times ◌·◌ s t) (let e : 1 + i ≡ suc i = omega arith in e)

  -- t^(i+1)·t^(j+1) = t^(i+j+2)
  pub power_add : {t : ℕ} → t < n → (i j : ℕ) → times ◌·◌ t t i · times ◌·◌ t t j ≡ times ◌·◌ t t (suc (i + j))
  unfolding times
  power_add {t} ht i j =
      times_power (times_inside ht ht i) ht j ∙ times_add t t i (suc j)
      ∙ ap (times ◌·◌ t t) (let e : i + suc j ≡ suc (i + j) = omega arith in e)

  -- (t^(i+1))^(j+1) = t^((i+1)(j+1))
  pub power_power : {t : ℕ} → t < n → (i j : ℕ)
      → times ◌·◌ (times ◌·◌ t t i) (times ◌·◌ t t i) j ≡ times ◌·◌ t t (i + j * suc i)
  unfolding times
  power_power {t} ht i zero = ap (times ◌·◌ t t) (let e : i ≡ i + 0 * suc i = omega arith in e)
  power_power {t} ht i (suc j) =
      ap (λ (x : ℕ). x · times ◌·◌ t t i) (power_power ht i j) ∙ power_add ht (i + j * suc i) i
      ∙ ap (times ◌·◌ t t) (let e : suc (i + j * suc i + i) ≡ i + suc j * suc i = omega arith in e)

  -- an element that does not change s
  pub times_stays : {s e : ℕ} → s · e ≡ s → (i : ℕ) → times ◌·◌ s e i ≡ s
  unfolding times
  times_stays h zero = refl
  times_stays {s} {e} h (suc i) = ap (λ (x : ℕ). x · e) (times_stays h i) ∙ h

  -- two idempotent powers of one element are equal
  pub idempotent_unique : {t : ℕ} → t < n → (i j : ℕ)
      → times ◌·◌ t t i · times ◌·◌ t t i ≡ times ◌·◌ t t i → times ◌·◌ t t j · times ◌·◌ t t j ≡ times ◌·◌ t t j
      → times ◌·◌ t t i ≡ times ◌·◌ t t j
  idempotent_unique {t} ht i j p q =
      sym (times_stays p j) ∙ power_power ht i j
      ∙ ap (times ◌·◌ t t) (let e : i + j * suc i ≡ j + i * suc j = omega arith in e)
      ∙ sym (power_power ht j i) ∙ times_stays q i

  -- once a power comes again after p more factors, so do all later ones
  pub power_again : (t i p : ℕ) → times ◌·◌ t t (i + p) ≡ times ◌·◌ t t i → (d c : ℕ)
      → times ◌·◌ t t (i + d + c * p) ≡ times ◌·◌ t t (i + d)
  power_again t i p h d zero = ap (times ◌·◌ t t) (let e : i + d + 0 * p ≡ i + d = omega arith in e)
  power_again t i p h d (suc c) =
      ap (times ◌·◌ t t) (let e : i + d + suc c * p ≡ (i + p) + (d + c * p) = omega arith in e)
      ∙ sym (times_add t t (i + p) (d + c * p)) ∙ ap (λ (x : ℕ). times ◌·◌ x t (d + c * p)) h
      ∙ times_add t t i (d + c * p)
      ∙ ap (times ◌·◌ t t) (let e : i + (d + c * p) ≡ i + d + c * p = omega arith in e)
      ∙ power_again t i p h d c

  -- where t^(i+1) comes again after p more factors, a power with an exponent above i that is a multiple of p is its own square
  multiple_square : {t : ℕ} → t < n → (i p d c : ℕ) → times ◌·◌ t t (i + p) ≡ times ◌·◌ t t i → suc (i + d) ≡ c * p
      → times ◌·◌ t t (i + d) · times ◌·◌ t t (i + d) ≡ times ◌·◌ t t (i + d)
  multiple_square {t} ht i p d c h e =
      power_add ht (i + d) (i + d)
      ∙ ap (times ◌·◌ t t) (let g : suc (i + d + (i + d)) ≡ i + d + c * p = omega arith in g)
      ∙ power_again t i p h d c

-- a power of t with an exponent in 1..n (one above `index`) that is its own square
pub record IdempotentPower (n : ℕ) (◌·◌ : ℕ → ℕ → ℕ) (t : ℕ) : Type 0 where
  pub index : ℕ
  pub below : index < n
  pub square : ◌·◌ (times ◌·◌ t t index) (times ◌·◌ t t index) ≡ times ◌·◌ t t index

-- a multiple of p among the p numbers after i
record MultipleAfter (i p : ℕ) : Type 0 where
  factor : ℕ
  past : ℕ
  short : past < p
  meets : suc (i + past) ≡ factor * p

multiple_after : (i p : ℕ) → 0 < p → MultipleAfter i p
multiple_after i p h =
    let d : p * (i / p) + i % p ≡ i = div-add-mod i p in
    let l : i % p < p = mod-lt i h in
    let f : suc (i / p) * p ≡ p * (i / p) + p = omega arith in
    record { factor = suc (i / p); past = p - suc (i % p); short = omega arith; meets = omega arith }

module _ {n : ℕ} {◌·◌ : ℕ → ℕ → ℕ} (law : Semigroup n ◌·◌) where
  from_collision : {t : ℕ} → t < n → Collision n (times ◌·◌ t t) → IdempotentPower n ◌·◌ t
  from_collision {t} ht c = go (multiple_after c.i (c.j - c.i) (omega arith))
    where
      again : times ◌·◌ t t (c.i + (c.j - c.i)) ≡ times ◌·◌ t t c.i
      again = ap (times ◌·◌ t t) (let e : c.i + (c.j - c.i) ≡ c.j = omega arith in e) ∙ sym c.same

      go : MultipleAfter c.i (c.j - c.i) → IdempotentPower n ◌·◌ t
      go k = record {
        index = c.i + k.past;
        below = omega arith;
        square = multiple_square law ht c.i (c.j - c.i) k.past k.factor again k.meets;
      }

  -- among the powers with exponents 1..n of any element one is idempotent
  pub idempotent_power : {t : ℕ} → t < n → IdempotentPower n ◌·◌ t
  idempotent_power {t} ht = from_collision ht (pigeonhole n (times ◌·◌ t t) (λ i h. times_inside law ht ht i))

-- the power of t with exponent i + 1 is its own square
unfoldable pub settled : (ℕ → ℕ → ℕ) → ℕ → ℕ → Bool
settled ◌·◌ t i = eqb (◌·◌ (times ◌·◌ t t i) (times ◌·◌ t t i)) (times ◌·◌ t t i)

-- one less than the least exponent that makes a power of t idempotent
unfoldable pub settling : ℕ → (ℕ → ℕ → ℕ) → ℕ → ℕ
settling n ◌·◌ t = least_below n (settled ◌·◌ t)

-- the idempotent power of t
unfoldable pub idempotent_of : ℕ → (ℕ → ℕ → ℕ) → ℕ → ℕ
idempotent_of n ◌·◌ t = times ◌·◌ t t (settling n ◌·◌ t)

module _ {n : ℕ} {◌·◌ : ℕ → ℕ → ℕ} (law : Semigroup n ◌·◌) {t : ℕ} (ht : t < n) where
  infixl 70 ◌·◌
  -- the least exponent lies in 1..n
  pub settling_below : settling n ◌·◌ t < n
  unfolding settling settled
  settling_below =
      let p = idempotent_power law ht in
      omega (arith, p.below, least_bound n (settled ◌·◌ t) p.index p.below (yes_eqb p.square))

  -- no smaller exponent will do
  pub settling_least : (i : ℕ) → times ◌·◌ t t i · times ◌·◌ t t i ≡ times ◌·◌ t t i → settling n ◌·◌ t ≤ i
  unfolding settling settled
  settling_least i e = ⊎_elim (λ h. h) (λ l. absurd (least_first n (settled ◌·◌ t) i l (yes_eqb e))) (le_or_lt (settling n ◌·◌ t) i)

  pub idempotent_square : idempotent_of n ◌·◌ t · idempotent_of n ◌·◌ t ≡ idempotent_of n ◌·◌ t
  unfolding idempotent_of settling settled
  idempotent_square = eqb_yes (least_holds n (settled ◌·◌ t) settling_below)

  pub idempotent_inside : idempotent_of n ◌·◌ t < n
  unfolding idempotent_of
  idempotent_inside = times_inside law ht ht (settling n ◌·◌ t)

  -- every power that is its own square is the idempotent power
  pub idempotent_is : (i : ℕ) → times ◌·◌ t t i · times ◌·◌ t t i ≡ times ◌·◌ t t i → times ◌·◌ t t i ≡ idempotent_of n ◌·◌ t
  unfolding idempotent_of
  idempotent_is i e = idempotent_unique law ht i (settling n ◌·◌ t) e idempotent_square

  -- an idempotent is its own idempotent power
  pub idempotent_self : t · t ≡ t → idempotent_of n ◌·◌ t ≡ t
  unfolding times
  idempotent_self e = sym (idempotent_is 0 e)
