-- The check of a buffer's length, before other checks. Assumes nothing.
use Prim.Native.Nat.{ℕ, ◌≤◌, ◌<◌}
use mathlib.Core.Path.{refl}
use mathlib.Core.List.{List, ◌∷◌}
use native.Mathlib.Omega.{arith}
use lib.ListN.{length}
use Rattle.answer.specs.declared.Refusal.TheVariants.{BufferTooShort}
use Rattle.answer.specs.Checks.{Check, Verdict, refused, FirstFailure}
use Rattle.answer.proofs.Order.{AllSingle, single_at, single_cons, first_passes, first_fails}
use Rattle.formats.specs.RuleChecks.{ShortAt, buffer_check}

module _ {needed : ℕ} {buffer : List ℕ} {checks : List Check} where
  -- a short buffer is refused
  pub buffer_short : length buffer < needed → FirstFailure (buffer_check needed buffer ∷ checks) (refused BufferTooShort 1 0)
  buffer_short h = first_fails (buffer_check needed buffer) (record { short = h; is_place = refl })

  -- after one that is long enough the other checks decide
  pub buffer_long : needed ≤ length buffer → {v : Verdict} → FirstFailure checks v → FirstFailure (buffer_check needed buffer ∷ checks) v
  buffer_long h f = first_passes (record { nowhere = λ place s. omega (arith, s.short) }) f

  pub buffer_single : AllSingle checks → AllSingle (buffer_check needed buffer ∷ checks)
  buffer_single s = single_cons (single_at (λ place (a : ShortAt needed buffer place). a.is_place)) s
