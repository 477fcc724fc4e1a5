-- The part of a lasso's word in numbers goes in three fields, and is read back from them. Assumes nothing.
use Prim.Native.Nat.{ℕ, ◌-◌, ◌≤◌}
use native.Mathlib.Nat.{mod-lt}
use native.Mathlib.Omega.{arith}
use mathlib.Core.Path.{◌≡◌, refl, sym, subst}
use mathlib.Core.Bool.{Bool, true, false}
use mathlib.Core.List.{List}
use lib.Dec.{T, leb, leb→le}
use lib.ListN.{length}
use Rattle.finite.proofs.Numbers.{Compared, lesser, level, greater, compared_numbers}
use Rattle.formats.specs.WordChecks.{shortest_start, shortest_cycle, longest_word}
use Rattle.promises.specs.declared.StretchPlace.{StretchPlace}
use Rattle.promises.specs.Stretch.{word_fits, lasso_fits, stretch_numbers}
use Rattle.stretch_call.proofs.Numbers.{both_true, cycle_some, numbers_none, numbers_start, numbers_cycle}
use Rattle.packing.specs.Packing.{unpack}
use Rattle.packing.proofs.ReadBack.{Fits, read_back}
use Rattle.packing_counts.specs.Counts.{stretch_contents, pack_stretch}

module _ (u v : List ℕ) (at : ℕ) where
  start_short : lasso_fits u v ≡ true → length u ≤ longest_word
  start_short e =
      let start = (both_true (word_fits shortest_start u) (word_fits shortest_cycle v) e).0 in
      leb→le (length u) longest_word (subst T (sym (both_true (leb shortest_start (length u)) (leb (length u) longest_word) start).1) tt)

  cycle_short : lasso_fits u v ≡ true → length v ≤ longest_word
  cycle_short e =
      let cycle = (both_true (word_fits shortest_start u) (word_fits shortest_cycle v) e).1 in
      leb→le (length v) longest_word (subst T (sym (both_true (leb shortest_cycle (length v)) (leb (length v) longest_word) cycle).1) tt)

  pub stretch_fits : Fits (stretch_contents (stretch_numbers u v at))
  stretch_fits = go (lasso_fits u v) refl
    where
      in_cycle : lasso_fits u v ≡ true → length u ≤ at → Fits (stretch_contents (stretch_numbers u v at))
      in_cycle e h =
          let within = mod-lt (at - length u) {m = length v} (cycle_some u v at e) in
          let short = cycle_short e in
          subst (λ (p : StretchPlace). Fits (stretch_contents p)) (numbers_cycle u v at e h) (record { first = omega arith; second = omega arith; third = omega arith })

      taken : lasso_fits u v ≡ true → Compared at (length u) → Fits (stretch_contents (stretch_numbers u v at))
      taken e (lesser h) =
          let short = start_short e in
          subst (λ (p : StretchPlace). Fits (stretch_contents p)) (numbers_start u v at e h) (record { first = omega arith; second = omega arith; third = omega arith })
      taken e (level h) = in_cycle e (omega arith)
      taken e (greater h) = in_cycle e (omega arith)

      go : (b : Bool) → lasso_fits u v ≡ b → Fits (stretch_contents (stretch_numbers u v at))
      go false e = subst (λ (p : StretchPlace). Fits (stretch_contents p)) (numbers_none u v at e) (record { first = omega arith; second = omega arith; third = omega arith })
      go true e = taken e (compared_numbers at (length u))

  pub stretch_read : unpack (pack_stretch (stretch_numbers u v at)) ≡ stretch_contents (stretch_numbers u v at)
  stretch_read = read_back (stretch_contents (stretch_numbers u v at)) stretch_fits
