-- What a keep stores is read back under its name, and under the other names nothing changes; what a keep and a return that passed know of
-- the name. Assumes nothing.
use Prim.Native.Nat.{ℕ, ◌+◌, ◌*◌, ◌≤◌, ◌<◌}
use mathlib.Core.Path.{◌≡◌, refl}
use mathlib.Core.Logic.{◌≢◌}
use mathlib.Core.List.{List, ◌∷◌}
use native.Mathlib.Omega.{arith}
use lib.ListN.{length, get_or}
use Rattle.finite.proofs.Stores.{Stores, done, put, stores, Apart, here, later, stores_length, stores_other, stores_at}
use Rattle.answer.specs.Checks.{passed, FirstFailure}
use Rattle.answer.proofs.Order.{passed_last, passes_head, passes_tail}
use Rattle.formats.specs.RuleChecks.{buffer_check}
use Rattle.formats.specs.Calls.{checked_checks}
use Rattle.promises.specs.declared.Monitor.{Monitor}
use Rattle.promises.specs.Points.{names_count, points_size, NeverKept, point_at, kept_points, keep_checks, return_checks}

module _ (points : List ℕ) (name : ℕ) (f : Monitor) where
  abbrev all : Stores
  all = put (3 * name) 1 (put (3 * name + 1) f.before (put (3 * name + 2) f.since done))

  pub kept_length : length (kept_points points name f) ≡ length points
  unfolding kept_points stores
  kept_length = stores_length all points

  -- a byte of another name
  other_byte : (i : ℕ) → i ≢ 3 * name → i ≢ 3 * name + 1 → i ≢ 3 * name + 2 → get_or (kept_points points name f) i 0 ≡ get_or points i 0
  unfolding kept_points stores Apart
  other_byte i a b c = stores_other all points i (a, (b, (c, tt)))

  module _ (other : ℕ) (h : other ≢ name) where
    pub other_flag : get_or (kept_points points name f) (3 * other) 0 ≡ get_or points (3 * other) 0
    other_flag = other_byte (3 * other) (λ e. h (omega arith)) (λ e. omega arith) (λ e. omega arith)

    pub other_point : point_at (kept_points points name f) other ≡ point_at points other
    unfolding point_at
    other_point =
        let before = other_byte (3 * other + 1) (λ e. omega arith) (λ e. h (omega arith)) (λ e. omega arith) in
        let since = other_byte (3 * other + 2) (λ e. omega arith) (λ e. omega arith) (λ e. h (omega arith)) in
        λ i. record { before = before i; since = since i }

  module _ (room : points_size ≤ length points) (named : name < names_count) where
    kept_flag : get_or (kept_points points name f) (3 * name) 0 ≡ 1
    unfolding kept_points stores Apart
    kept_flag = stores_at all points (here (omega arith, (omega arith, tt))) (omega arith)

    pub kept_kept : NeverKept (kept_points points name f) name → ⊥
    kept_kept e = omega (arith, kept_flag, e)

    kept_before : get_or (kept_points points name f) (3 * name + 1) 0 ≡ f.before
    unfolding kept_points stores Apart
    kept_before = stores_at all points (later (here (omega arith, tt))) (omega arith)

    kept_since : get_or (kept_points points name f) (3 * name + 2) 0 ≡ f.since
    unfolding kept_points stores Apart
    kept_since = stores_at all points (later (later (here tt))) (omega arith)

    pub kept_point : point_at (kept_points points name f) name ≡ f
    unfolding point_at
    kept_point = λ i. record { before = kept_before i; since = kept_since i }

module _ (bytes : List ℕ) (f : Monitor) (name : ℕ) (points entry : List ℕ) where
  -- a keep that passed had room, and a name below 8
  module _ (all : FirstFailure (keep_checks bytes f name points entry) passed) where
    pub keep_room : points_size ≤ length points
    keep_room =
        let not : length points < points_size → ⊥ = λ h. (passes_head all).nowhere 0 (record { short = h; is_place = refl }) in
        omega arith

    pub keep_named : name < names_count
    keep_named =
        let later = passed_last (buffer_check points_size points ∷ checked_checks 1 bytes entry) _ all in
        let not : 7 < name → ⊥ = λ h. (passes_head later).nowhere 0 (record { above = h; is_place = refl }) in
        omega arith

  -- a return that passed had a name below 8 that was kept
  module _ (all : FirstFailure (return_checks bytes f name points entry) passed) where
    pub return_named : name < names_count
    return_named =
        let later = passed_last (buffer_check points_size points ∷ checked_checks 1 bytes entry) _ all in
        let not : 7 < name → ⊥ = λ h. (passes_head later).nowhere 0 (record { above = h; is_place = refl }) in
        omega arith

    pub return_kept : NeverKept points name → ⊥
    return_kept e =
        (passes_head (passes_tail (passed_last (buffer_check points_size points ∷ checked_checks 1 bytes entry) _ all))).nowhere 0 (record { never = e; is_place = refl })
