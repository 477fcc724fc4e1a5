-- A scratch that is long enough and zeros: its check passes, and a library call leaves it as it is. Assumes nothing.
use Prim.Native.Nat.{ℕ, ◌≤◌}
use mathlib.Core.Path.{◌≡◌, sym}
use mathlib.Core.List.{List, ◌∷◌}
use native.Mathlib.Omega.{arith}
use borrow.Author.Tests.{le-ltb}
use lib.ListN.{length}
use Rattle.answer.specs.Checks.{Check, Verdict, FirstFailure}
use Rattle.answer.proofs.Order.{FirstCase, decides_now, hands_on, first_case}
use Rattle.formats.specs.RuleChecks.{buffer_check, scratch_size}
use Rattle.formats.specs.Calls.{after_call}
use Rattle.board_pass.specs.Passes.{Cleared}

-- after a buffer that is long enough the other checks have decided
pub after_long : {needed : ℕ} {buffer : List ℕ} {checks : List Check} {v : Verdict} → needed ≤ length buffer
    → FirstFailure (buffer_check needed buffer ∷ checks) v → FirstFailure checks v
after_long {needed} {buffer} {checks} {v} h f = go (first_case f)
  where
    go : FirstCase (buffer_check needed buffer) checks v → FirstFailure checks v
    go (decides_now r) = absurd (let z : ⊥ = omega (arith, r.fails.short) in z)
    go (hands_on p g) = g

-- a scratch that is zeros is left as it is
pub call_leaves : {scratch : List ℕ} → Cleared scratch → after_call scratch ≡ scratch
unfolding after_call
call_leaves {scratch} c = simp (le-ltb (length scratch) scratch_size c.room) (sym c.zeros)
