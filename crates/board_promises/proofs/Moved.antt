-- The board after a step of the first names: who is present stays, and each of those has the monitor that the step makes. Assumes nothing.
use Prim.Native.Nat.{ℕ, zero, suc, ◌+◌, ◌<◌}
use mathlib.Core.Path.{◌≡◌, refl, sym, ap, ap₂, ◌∙◌}
use mathlib.Core.Bool.{Bool, true, false, cond}
use mathlib.Core.Logic.{by_cases}
use mathlib.Core.List.{List}
use native.Mathlib.Omega.{arith}
use native.Mathlib.Decide.{ℕ_discrete}
use native.Mathlib.Numerals.{add-one}
use lib.ListN.{length, get_or, length-set}
use lib.Seq.{get_or-set_same, get_or-set_other, set-get_or}
use Rattle.promises.specs.declared.Monitor.{Monitor}
use Rattle.promises.specs.declared.Step.{Step}
use Rattle.promises.specs.Monitor.{no_value}
use Rattle.board_promises.specs.declared.Board.{Board}
use Rattle.board_promises.specs.Boards.{present_at, monitor_at, with_monitor, moved_below}
use Rattle.board_promises.specs.Monitors.{Whole, moved_at}

module _ (files : List ℕ) (step : Step) (b : Board) where
  -- by whether the name is present
  pub moved_by : (i : ℕ) {there : Bool} → present_at b i ≡ there
      → moved_below files step b (suc i) ≡ cond there (with_monitor (moved_below files step b i) i (moved_at b files step i)) (moved_below files step b i)
  unfolding moved_below
  moved_by i e = ap (λ (x : Bool). cond x (with_monitor (moved_below files step b i) i (moved_at b files step i)) (moved_below files step b i)) e

  -- nobody is moved
  pub moved_none : b ≡ moved_below files step b 0
  unfolding moved_below
  moved_none = refl

  pub moved_absent : (i : ℕ) → present_at b i ≡ false → moved_below files step b (i + 1) ≡ moved_below files step b i
  moved_absent i e = ap (moved_below files step b) (add-one i) ∙ moved_by i e

  pub moved_present : (i : ℕ) → present_at b i ≡ true → moved_below files step b (i + 1) ≡ with_monitor (moved_below files step b i) i (moved_at b files step i)
  moved_present i e = ap (moved_below files step b) (add-one i) ∙ moved_by i e

  -- what every name that is moved leaves as it is
  module _ {A : Type 0} (part : Board → A) (kept : (c : Board) (i : ℕ) (f : Monitor) → part (with_monitor c i f) ≡ part c) where
    part_kept : (count : ℕ) → part (moved_below files step b count) ≡ part b
    unfolding moved_below
    part_kept zero = refl
    part_kept (suc i) = go (present_at b i) refl (part_kept i)
      where
        go : (there : Bool) → present_at b i ≡ there → part (moved_below files step b i) ≡ part b → part (moved_below files step b (suc i)) ≡ part b
        go true e before = ap part (moved_by i e) ∙ kept (moved_below files step b i) i (moved_at b files step i) ∙ before
        go false e before = ap part (moved_by i e) ∙ before

  pub moved_flags : (count : ℕ) → (moved_below files step b count).present ≡ b.present
  moved_flags = part_kept (λ (c : Board). c.present) (λ c i f. refl)

  pub moved_whole : Whole b → (count : ℕ) → Whole (moved_below files step b count)
  moved_whole w count = record {
    flags = ap length (moved_flags count) ∙ w.flags;
    befores = part_kept (λ (c : Board). length c.before) (λ c i f. length-set c.before i f.before) count ∙ w.befores;
    sinces = part_kept (λ (c : Board). length c.since) (λ c i f. length-set c.since i f.since) count ∙ w.sinces;
  }

-- a monitor, by its values
monitor_is : {f g : Monitor} → f.before ≡ g.before → f.since ≡ g.since → f ≡ g
monitor_is {f} {g} p q = ap₂ monitor p q
  where
    monitor : ℕ → ℕ → Monitor
    monitor x y = record { before = x; since = y }

-- it is read with any default
default_any : (l : List ℕ) (i d e : ℕ) → i < length l → get_or l i e ≡ get_or l i d
default_any l i d e h = sym (ap (λ (m : List ℕ). get_or m i e) (set-get_or l i d)) ∙ get_or-set_same l i (get_or l i d) e h

pub monitor_read : {b : Board} → Whole b → {i : ℕ} → i < 8 → record { before = get_or b.before i 0; since = get_or b.since i 0 } ≡ monitor_at b i
monitor_read {b} w {i} h =
    monitor_is (default_any b.before i no_value 0 (omega (arith, w.befores))) (default_any b.since i no_value 0 (omega (arith, w.sinces)))

-- the monitor that a name is given, and those of the others
pub set_here : {b : Board} → Whole b → {i : ℕ} → i < 8 → (f : Monitor) → monitor_at (with_monitor b i f) i ≡ f
set_here {b} w {i} h f =
    monitor_is {f = monitor_at (with_monitor b i f) i} {g = f} (get_or-set_same b.before i f.before no_value (omega (arith, w.befores)))
    (get_or-set_same b.since i f.since no_value (omega (arith, w.sinces)))

pub set_elsewhere : (b : Board) {i j : ℕ} → (j ≡ i → ⊥) → (f : Monitor) → monitor_at (with_monitor b i f) j ≡ monitor_at b j
set_elsewhere b {i} {j} other f =
    monitor_is {f = monitor_at (with_monitor b i f) j} {g = monitor_at b j} (get_or-set_other b.before i j f.before no_value other)
    (get_or-set_other b.since i j f.since no_value other)

-- so each that is present is moved, once it is its turn
pub moved_monitor : (files : List ℕ) (step : Step) {b : Board} → Whole b → (count i : ℕ) → i < count → i < 8 → present_at b i ≡ true
    → monitor_at (moved_below files step b count) i ≡ moved_at b files step i
moved_monitor files step {b} w zero i below named there = absurd (let z : ⊥ = omega arith in z)
moved_monitor files step {b} w (suc j) i below named there =
    by_cases (ℕ_discrete i j) (λ (e : i ≡ j). at_last e) (λ other. go other (present_at b j) refl (moved_monitor files step w j i (omega arith) named there))
  where
    at_last : i ≡ j → monitor_at (moved_below files step b (suc j)) i ≡ moved_at b files step i
    at_last e =
        ap (λ (k : ℕ). monitor_at (moved_below files step b (suc k)) i) (let z : j ≡ i = omega arith in z)
        ∙ ap (λ (c : Board). monitor_at c i) (moved_by files step b i there) ∙ set_here (moved_whole files step b w i) named (moved_at b files step i)

    go : (i ≡ j → ⊥) → (flag : Bool) → present_at b j ≡ flag → monitor_at (moved_below files step b j) i ≡ moved_at b files step i
        → monitor_at (moved_below files step b (suc j)) i ≡ moved_at b files step i
    go other true e before = ap (λ (c : Board). monitor_at c i) (moved_by files step b j e) ∙ set_elsewhere (moved_below files step b j) other (moved_at b files step j) ∙ before
    go other false e before = ap (λ (c : Board). monitor_at c i) (moved_by files step b j e) ∙ before
