-- What each way through the checks of named points shows. Assumes nothing.
use Prim.Native.Nat.{ℕ, ◌+◌, ◌*◌, ◌≤◌, ◌<◌}
use mathlib.Core.Path.{◌≡◌, refl, subst}
use mathlib.Core.Bool.{Bool, true, false}
use mathlib.Core.Logic.{inr, ⊎_elim}
use mathlib.Core.List.{List}
use native.Mathlib.Omega.{arith}
use native.Mathlib.Decide.{ℕ_discrete}
use lib.ListN.{get_or}
use Rattle.answer.specs.Checks.{passed, refused, FirstFailure}
use Rattle.answer.specs.declared.Refusal.TheVariants.{EntryOutOfRange, NameOutOfRange, NameNeverKept}
use Rattle.answer.proofs.Order.{first_passes, first_fails, none_left}
use Rattle.promises.specs.declared.Monitor.{Monitor}
use Rattle.promises.specs.Points.{names_count, NeverKept, point_at, name_check, never_kept_check, point_values_check, PointOutOfRange}
use Rattle.monitor_state.specs.Ready.{GoodMonitor, StrayAnswer}
use Rattle.monitor_state.proofs.Numbers.{good_monitor}
use Rattle.monitor_point_checks.specs.PointChecks.{keep_faults, return_faults, KeptOutOfRange, NameAnswer, PointsAnswer, AnyOutOfRange, ValuesAnswer, NoneBelow}

-- ---- one name

module _ (n : ℕ) (points : List ℕ) (name : ℕ) where
  pub never_kept_good : NeverKept points name → KeptOutOfRange n points name → ⊥
  never_kept_good e k = k.kept e

  -- one that was kept, by its two values
  pub kept_decides : (NeverKept points name → ⊥) → (b : Bool) → StrayAnswer n (record { before = get_or points (3 * name + 1) 0; since = get_or points (3 * name + 2) 0 }) b
      → NameAnswer n points name b
  unfolding point_at
  kept_decides kept true s = record { kept = kept; stray = s }
  kept_decides kept false g = λ k. good_monitor g k.stray

-- ---- the eight names

module _ {n : ℕ} {points : List ℕ} where
  pub none_yet : NoneBelow n points 0
  none_yet = record { none = λ name h. omega (arith, h) }

  pub one_more : {names : ℕ} → NoneBelow n points names → (KeptOutOfRange n points names → ⊥) → NoneBelow n points (names + 1)
  one_more {names} w f = record { none = λ name h. go name h (ℕ_discrete name names) }
    where
      go : (name : ℕ) → name < names + 1 → Dec (name ≡ names) → KeptOutOfRange n points name → ⊥
      go name h (yes e) k = f (subst (KeptOutOfRange n points) e k)
      go name h (no d) k = w.none name (omega (arith, h, d)) k

  pub found_stray : {name : ℕ} → name < names_count → KeptOutOfRange n points name → PointOutOfRange n points
  found_stray {name} h k = record { name = name; named = h; kept = k.kept; stray = k.stray }

  pub all_good : {names : ℕ} → NoneBelow n points names → names_count ≤ names → PointOutOfRange n points → ⊥
  all_good w f p = w.none p.name (omega (arith, f, p.named)) (record { kept = p.kept; stray = p.stray })

pub said_kept_stray : (n : ℕ) (points : List ℕ) (name : ℕ) (b : Bool) → NameAnswer n points name b → b ≡ true → KeptOutOfRange n points name
said_kept_stray n points name b k e = subst (NameAnswer n points name) e k

pub said_kept_good : (n : ℕ) (points : List ℕ) (name : ℕ) (b : Bool) → NameAnswer n points name b → b ≡ false → KeptOutOfRange n points name → ⊥
said_kept_good n points name b k e = subst (NameAnswer n points name) e k

-- ---- the monitor and the eight names

-- the monitor is good, so that the points decide
pub points_decide : (n : ℕ) (f : Monitor) (points : List ℕ) (b : Bool) → GoodMonitor n f → PointsAnswer n points b → ValuesAnswer n f points b
points_decide n f points true g p = inr p
points_decide n f points false g p = ⊎_elim (good_monitor g) p

pub said_any_stray : (n : ℕ) (f : Monitor) (points : List ℕ) (b : Bool) → ValuesAnswer n f points b → b ≡ true → AnyOutOfRange n f points
said_any_stray n f points b k e = subst (ValuesAnswer n f points) e k

pub said_all_good : (n : ℕ) (f : Monitor) (points : List ℕ) (b : Bool) → ValuesAnswer n f points b → b ≡ false → AnyOutOfRange n f points → ⊥
said_all_good n f points b k e = subst (ValuesAnswer n f points) e k

-- ---- the checks in their order

module _ (n : ℕ) (f : Monitor) (name : ℕ) (points : List ℕ) where
  pub keep_name : names_count ≤ name → FirstFailure (keep_faults n f name points) (refused NameOutOfRange 1 0)
  keep_name h = first_fails (name_check name) (record { above = h; is_place = refl })

  pub return_name : names_count ≤ name → FirstFailure (return_faults n f name points) (refused NameOutOfRange 1 0)
  return_name h = first_fails (name_check name) (record { above = h; is_place = refl })

  module _ (named : name < names_count) where
    pub keep_stray : AnyOutOfRange n f points → FirstFailure (keep_faults n f name points) (refused EntryOutOfRange 1 0)
    keep_stray s =
        first_passes (record { nowhere = λ place t. omega (arith, named, t.above) }) (first_fails (point_values_check n f points) (record { stray = s; is_place = refl }))

    pub keep_good : (AnyOutOfRange n f points → ⊥) → FirstFailure (keep_faults n f name points) passed
    keep_good g = first_passes (record { nowhere = λ place t. omega (arith, named, t.above) }) (first_passes (record { nowhere = λ place t. g t.stray }) none_left)

    pub return_never : NeverKept points name → FirstFailure (return_faults n f name points) (refused NameNeverKept 1 0)
    return_never e =
        first_passes (record { nowhere = λ place t. omega (arith, named, t.above) }) (first_fails (never_kept_check points name) (record { never = e; is_place = refl }))

    module _ (kept : NeverKept points name → ⊥) where
      pub return_stray : AnyOutOfRange n f points → FirstFailure (return_faults n f name points) (refused EntryOutOfRange 1 0)
      return_stray s =
          first_passes (record { nowhere = λ place t. omega (arith, named, t.above) })
          (first_passes (record { nowhere = λ place t. kept t.never }) (first_fails (point_values_check n f points) (record { stray = s; is_place = refl })))

      pub return_good : (AnyOutOfRange n f points → ⊥) → FirstFailure (return_faults n f name points) passed
      return_good g =
          first_passes (record { nowhere = λ place t. omega (arith, named, t.above) })
          (first_passes (record { nowhere = λ place t. kept t.never }) (first_passes (record { nowhere = λ place t. g t.stray }) none_left))
