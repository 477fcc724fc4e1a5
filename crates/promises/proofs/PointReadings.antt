-- What the promises of keep and return, and logs, say in small cases: each is contradicted where a definition says something else. Assumes
-- nothing.
use Prim.Native.Nat.{ℕ, ◌≤◌, ◌<◌}
use mathlib.Core.Path.{◌≡◌, refl}
use mathlib.Core.Logic.{inl, inr}
use mathlib.Core.List.{List, [], ◌∷◌}
use native.Mathlib.Omega.{arith}
use lib.ListN.{length}
use Rattle.answer.specs.Checks.{passed, numbered, FirstFailure}
use Rattle.answer.proofs.Order.{first_passes, first_fails, passed_before}
use Rattle.theory.specs.Rules.{Morphism}
use Rattle.formats.specs.RuleFile.{elements_of}
use Rattle.formats.specs.Calls.{checked_checks}
use Rattle.promises.specs.declared.Monitor.{Monitor}
use Rattle.promises.specs.Monitor.{fresh_monitor, ValueOutOfRange}
use Rattle.promises.specs.Moves.{after_event, after_mark}
use Rattle.promises.specs.Histories.{Action, event, mark}
use Rattle.promises.specs.Points.{names_count, points_size, NeverKept, point_at, kept_points, NameOutOfRangeAt, name_check, never_kept_check, point_values_check, PointOutOfRange, keep_checks, return_checks}
use Rattle.promises.specs.Logs.{Stored, stored, stored_at, after_history}

-- ---- the bytes: name 0 never kept, with bytes of no account; name 1 kept, with element 4 before and nothing since

points : List ℕ
points = 0 ∷ 200 ∷ 7 ∷ 1 ∷ 4 ∷ 64 ∷ []

point_of_one : point_at points 1 ≡ record { before = 4; since = 64 }
unfolding point_at points
point_of_one = refl

-- a keep under name 0 writes its three bytes and no other
keep_zero : kept_points points 0 (record { before = 2; since = 3 }) ≡ 1 ∷ 2 ∷ 3 ∷ 1 ∷ 4 ∷ 64 ∷ []
unfolding kept_points points
keep_zero = refl

-- one under name 1 replaces what it held
keep_one : kept_points points 1 (record { before = 64; since = 0 }) ≡ 0 ∷ 200 ∷ 7 ∷ 1 ∷ 64 ∷ 0 ∷ []
unfolding kept_points points
keep_one = refl

-- ---- the names: 7 is the last

seven_passes : {place : ℕ} → NameOutOfRangeAt 7 place → ⊥
seven_passes f = omega (arith, f.above)

eight_fails : NameOutOfRangeAt 8 0
eight_fails = record { above = omega arith; is_place = refl }

-- ---- values: of a kept name they are looked at, 4 being no element of a rule with two; of names never kept they are not

kept_value : PointOutOfRange 2 points
unfolding point_at points
kept_value = record { name = 1; named = omega arith; kept = λ e. omega (arith, e); stray = inl (record { no_element = omega arith; not_none = λ e. omega (arith, e) }) }

unkept_values : {n : ℕ} {bytes : List ℕ} → ((name : ℕ) → name < names_count → NeverKept bytes name) → PointOutOfRange n bytes → ⊥
unkept_values none p = p.kept (none p.name p.named)

-- ---- the order: of a rule that passes and points that are long enough, first 15, then 16, then 3

module _ (bytes : List ℕ) (f : Monitor) (name : ℕ) (held entry : List ℕ) (long : points_size ≤ length held) (rule : FirstFailure (checked_checks 1 bytes entry) passed) where
  keep_fifteen : 7 < name → FirstFailure (keep_checks bytes f name held entry) (numbered 15 1 0)
  keep_fifteen h =
      first_passes (record { nowhere = λ place s. omega (arith, long, s.short) })
      (passed_before _ _ rule (first_fails (name_check name) (record { above = h; is_place = refl })))

  return_fifteen : 7 < name → FirstFailure (return_checks bytes f name held entry) (numbered 15 1 0)
  return_fifteen h =
      first_passes (record { nowhere = λ place s. omega (arith, long, s.short) })
      (passed_before _ _ rule (first_fails (name_check name) (record { above = h; is_place = refl })))

  return_sixteen : name < 8 → NeverKept held name → FirstFailure (return_checks bytes f name held entry) (numbered 16 1 0)
  return_sixteen h n =
      first_passes (record { nowhere = λ place s. omega (arith, long, s.short) })
      (passed_before _ _ rule
      (first_passes (record { nowhere = λ place s. omega (arith, h, s.above) })
      (first_fails (never_kept_check held name) (record { never = n; is_place = refl }))))

  keep_three : name < 8 → ValueOutOfRange (elements_of bytes) f.since → FirstFailure (keep_checks bytes f name held entry) (numbered 3 1 0)
  keep_three h v =
      first_passes (record { nowhere = λ place s. omega (arith, long, s.short) })
      (passed_before _ _ rule
      (first_passes (record { nowhere = λ place s. omega (arith, h, s.above) })
      (first_fails (point_values_check (elements_of bytes) f held) (record { stray = inl (inr v); is_place = refl }))))

-- ---- logs: a keep stores the history under its name and leaves the others

module _ (names : ℕ → Stored) (history : List Action) where
  keep_stores : stored_at names 3 history 3 ≡ stored history
  unfolding stored_at
  keep_stores = refl

  keep_leaves_others : stored_at names 3 history 2 ≡ names 2
  unfolding stored_at
  keep_leaves_others = refl

-- a history has its latest action first
latest_first : (m : Morphism) → after_history m (mark ∷ event 0 ∷ []) ≡ after_mark m (after_event m fresh_monitor 0)
unfolding after_history
latest_first m = refl
