-- The numbers of a monitor: an element, or 64 for none. Assumes nothing.
use Prim.Native.Nat.{ℕ, ◌≤◌, ◌<◌}
use mathlib.Core.Path.{◌≡◌, sym, ap, ◌∙◌, subst}
use mathlib.Core.Bool.{Bool, true, false}
use mathlib.Core.Logic.{inl, inr, ⊎_elim}
use mathlib.Core.List.{List}
use native.Mathlib.Omega.{arith}
use native.Mathlib.Decide.{ℕ_discrete}
use Rattle.finite.proofs.Numbers.{le_or_lt}
use Rattle.theory.specs.Rules.{Value, element, join}
use Rattle.theory.proofs.Values.{join_none}
use Rattle.formats.specs.Table.{morphism_at, product_at}
use Rattle.promises.specs.declared.Monitor.{Monitor}
use Rattle.promises.specs.Monitor.{no_value, value_of, number_for, ValueOutOfRange}
use Rattle.promises.proofs.MonitorValues.{value_none, value_element, number_of_value}
use Rattle.monitor_state.specs.Ready.{GoodNumber, join_at, OutOfRangeAnswer, GoodMonitor, StrayAnswer}

-- the product with none
pub join_left : (bytes : List ℕ) (n k a b : ℕ) → a ≡ no_value → b ≡ join_at bytes n k a b
unfolding join_at join
join_left bytes n k a b e = sym (ap (λ (x : Value). number_for (join (morphism_at bytes n k) x (value_of b))) (value_none e) ∙ number_of_value b)

pub join_right : (bytes : List ℕ) (n k a b : ℕ) → b ≡ no_value → a ≡ join_at bytes n k a b
unfolding join_at
join_right bytes n k a b e =
    sym (ap (λ (x : Value). number_for (join (morphism_at bytes n k) (value_of a) x)) (value_none e)
    ∙ ap number_for (join_none (morphism_at bytes n k) (value_of a)) ∙ number_of_value a)

-- the product of two elements
pub join_both : (bytes : List ℕ) (n k a b : ℕ) → (a ≡ no_value → ⊥) → (b ≡ no_value → ⊥) → product_at bytes n a b ≡ join_at bytes n k a b
unfolding join_at join number_for
join_both bytes n k a b f g =
    sym (ap (λ (x : Value). number_for (join (morphism_at bytes n k) x (value_of b))) (value_element f)
    ∙ ap (λ (x : Value). number_for (join (morphism_at bytes n k) (element a) x)) (value_element g))

-- what is not stray is good
pub not_stray : (n s : ℕ) → (ValueOutOfRange n s → ⊥) → GoodNumber n s
not_stray n s f =
    ⊎_elim (λ h. go h (ℕ_discrete s no_value)) (λ h. inl h) (le_or_lt n s)
  where
    go : n ≤ s → Dec (s ≡ no_value) → GoodNumber n s
    go h (yes e) = inr e
    go h (no g) = absurd (f (record { no_element = h; not_none = g }))

pub good_not_stray : (n s : ℕ) → GoodNumber n s → ValueOutOfRange n s → ⊥
good_not_stray n s g i = ⊎_elim (λ (h : s < n). omega (arith, i.no_element)) (λ (e : s ≡ no_value). i.not_none e) g

-- an element that is no none is below the size
pub good_element : {n s : ℕ} → GoodNumber n s → (s ≡ no_value → ⊥) → s < n
good_element g f = ⊎_elim (λ h. h) (λ e. absurd (f e)) g

-- a test of both values of a monitor
module _ (n : ℕ) (f : Monitor) {before : Bool} (b : OutOfRangeAnswer n f.before before) where
  pub stray_before : before ≡ true → StrayAnswer n f true
  stray_before e = inl (subst (OutOfRangeAnswer n f.before) e b)

  pub stray_by_since : before ≡ false → (since : Bool) → OutOfRangeAnswer n f.since since → StrayAnswer n f since
  stray_by_since e true s = inr s
  stray_by_since e false s = record { before_good = subst (OutOfRangeAnswer n f.before) e b; since_good = s }

-- the answers of these tests
pub number_stray : (n s : ℕ) (b : Bool) → OutOfRangeAnswer n s b → b ≡ true → ValueOutOfRange n s
number_stray n s b k e = subst (OutOfRangeAnswer n s) e k

pub number_good : (n s : ℕ) (b : Bool) → OutOfRangeAnswer n s b → b ≡ false → GoodNumber n s
number_good n s b k e = subst (OutOfRangeAnswer n s) e k

pub said_stray : (n : ℕ) (f : Monitor) (b : Bool) → StrayAnswer n f b → b ≡ true → StrayAnswer n f true
said_stray n f b k e = subst (StrayAnswer n f) e k

pub said_good : (n : ℕ) (f : Monitor) (b : Bool) → StrayAnswer n f b → b ≡ false → GoodMonitor n f
said_good n f b k e = subst (StrayAnswer n f) e k

-- a good monitor is not stray
pub good_monitor : {n : ℕ} {f : Monitor} → GoodMonitor n f → StrayAnswer n f true → ⊥
good_monitor {n} {f} g = ⊎_elim (good_not_stray n f.before g.before_good) (good_not_stray n f.since g.since_good)
