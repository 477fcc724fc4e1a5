-- Lassos with a letter in their start, and how every lasso is one of them: where the start is empty, the first turn of the cycle
-- stands for it. The endless word is the same, and the values decide the new start's. Assumes nothing.
use Prim.Native.Nat.{ℕ, ◌≤◌, ◌<◌}
use native.Mathlib.Omega.{arith}
use mathlib.Core.Path.{◌≡◌, refl, sym, ap₂, ◌∙◌}
use mathlib.Core.List.{List, [], ◌∷◌}
use lib.ListN.{length}
use Rattle.theory.specs.Words.{Lasso, endless}
use Rattle.theory.specs.Rules.{Morphism, Lawful, Value, none, element, join, value}
use Rattle.theory.specs.EmptyStarts.{Started}
use Rattle.theory.proofs.Periods.{same_cycle}
use Rattle.theory.proofs.Values.{Element, value_element}

pub started_lasso : {k : ℕ} {u v : List ℕ} → Started k u v → Lasso k u v
started_lasso l = record { start_over = l.start_over; cycle_over = l.cycle_over; cycle_some = l.cycle_some }

-- the start of a lasso, or a turn of its cycle where the start is empty
unfoldable pub start_or_turn : List ℕ → List ℕ → List ℕ
start_or_turn [] v = v
start_or_turn (a ∷ u) v = a ∷ u

pub turn_of_empty : (u v : List ℕ) → length u < 1 → v ≡ start_or_turn u v
unfolding start_or_turn
turn_of_empty [] v h = refl
turn_of_empty (a ∷ u) v h = absurd (omega arith)

pub start_of_some : (u v : List ℕ) → 1 ≤ length u → u ≡ start_or_turn u v
unfolding start_or_turn
start_of_some [] v h = absurd (omega arith)
start_of_some (a ∷ u) v h = refl

-- the first of two values that is not none
unfoldable pub first_value : Value → Value → Value
first_value none y = y
first_value (element s) y = element s

pub first_value_again : (x y : Value) → first_value (first_value x y) y ≡ first_value x y
unfolding first_value
first_value_again none none = refl
first_value_again none (element t) = refl
first_value_again (element s) y = refl

-- with it the lasso has a letter in its start
pub lasso_started : {k : ℕ} {u v : List ℕ} → Lasso k u v → Started k (start_or_turn u v) v
unfolding start_or_turn
lasso_started {u = []} l = record { start_over = l.cycle_over; cycle_over = l.cycle_over; start_some = l.cycle_some; cycle_some = l.cycle_some }
lasso_started {u = a ∷ u} l = record { start_over = l.start_over; cycle_over = l.cycle_over; start_some = omega arith; cycle_some = l.cycle_some }

-- and the endless word that it had
pub same_started : (u v : List ℕ) → 0 < length v → (i : ℕ) → endless (start_or_turn u v) v i ≡ endless u v i
unfolding start_or_turn
same_started [] v some i = same_cycle v some i
same_started (a ∷ u) v some i = refl

-- a word with a letter has a value that is an element, in any table
element_first : (m : Morphism) (s : ℕ) (x y : Value) → join m (element s) x ≡ first_value (join m (element s) x) y
unfolding join first_value
element_first m s none y = refl
element_first m s (element t) y = refl

pub value_started : (m : Morphism) (u v : List ℕ) → value m (start_or_turn u v) ≡ first_value (value m u) (value m v)
unfolding start_or_turn value first_value
value_started m [] v = refl
value_started m (a ∷ u) v = element_first m (m.image a) (value m u) (value m v)

-- lassos with equal values have them still
pub equal_started : (m : Morphism) (u v u' v' : List ℕ) → value m u ≡ value m u' → value m v ≡ value m v'
    → value m (start_or_turn u v) ≡ value m (start_or_turn u' v')
equal_started m u v u' v' eu ev = value_started m u v ∙ ap₂ first_value eu ev ∙ sym (value_started m u' v')

-- the elements that are the values of the two words
pub record StartedValues (m : Morphism) (u v : List ℕ) : Type 0 where
  pub start : Element m (value m (start_or_turn u v))
  pub cycle : Element m (value m v)

pub started_values : {m : Morphism} {u v : List ℕ} → Lawful m → Lasso m.letters u v → StartedValues m u v
started_values law l =
    let k = lasso_started l in
    record { start = value_element law k.start_over k.start_some; cycle = value_element law k.cycle_over k.cycle_some }
