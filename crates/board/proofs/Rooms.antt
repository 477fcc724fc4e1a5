-- The lent buffers: their two checks, and the scratch that the calls leave. Assumes nothing.
use Prim.Native.Nat.{ℕ, ◌≤◌, ◌<◌}
use mathlib.Core.Path.{◌≡◌, sym, ap, ◌∙◌, subst}
use mathlib.Core.Bool.{Bool, true, false}
use mathlib.Core.Logic.{◌⊎◌, ⊎_elim, by_cases}
use mathlib.Core.List.{List, ◌∷◌}
use native.Mathlib.Omega.{arith}
use native.Mathlib.Decide.{dec_lt}
use borrow.Author.Tests.{lt-ltb, le-ltb}
use lib.ListN.{length, replicate, length-replicate}
use Rattle.answer.specs.declared.Refusal.TheVariants.{BufferTooShort}
use Rattle.answer.specs.Checks.{Check, Verdict, refused, FirstFailure}
use Rattle.formats.specs.RuleChecks.{buffer_check, scratch_size}
use Rattle.formats.specs.Calls.{after_call, scratch_left}
use Rattle.formats.proofs.Buffers.{buffer_short, buffer_long}
use Rattle.board_promises.specs.Boards.{files_size}
use Rattle.board_pass.specs.Passes.{Cleared}
use Rattle.board_buffers.specs.Lengths.{ShortAnswer}

-- what filling it with zeros leaves
pub filled_cleared : (scratch filled : List ℕ) → scratch_size ≤ length scratch → filled ≡ replicate (length scratch) 0 → Cleared filled
filled_cleared scratch filled h e =
    let l : length filled ≡ length scratch = ap length e ∙ length-replicate (length scratch) 0 in
    record { room = omega arith; zeros = e ∙ ap (λ (n : ℕ). replicate n 0) (sym l) }

-- the answer of the test of both lengths
module _ (files scratch : List ℕ) where
  pub said_short : (b : Bool) → ShortAnswer (length files) (length scratch) b → b ≡ true → (length files < files_size) ⊎ (length scratch < scratch_size)
  said_short b s e = subst (ShortAnswer (length files) (length scratch)) e s

  pub said_long : (b : Bool) → ShortAnswer (length files) (length scratch) b → b ≡ false → (files_size ≤ length files) × (scratch_size ≤ length scratch)
  said_long b s e = subst (ShortAnswer (length files) (length scratch)) e s

  -- too short: 13, and scratch as it was
  pub rooms_short : {checks : List Check} → (length files < files_size) ⊎ (length scratch < scratch_size)
      → FirstFailure (buffer_check files_size files ∷ buffer_check scratch_size scratch ∷ checks) (refused BufferTooShort 1 0)
  rooms_short s = by_cases (dec_lt (length files) files_size) (λ h. buffer_short h)
      (λ f. buffer_long (omega arith) (buffer_short (⊎_elim (λ h. absurd (f h)) (λ (h : length scratch < scratch_size). h) s)))

  pub left_short : (length files < files_size) ⊎ (length scratch < scratch_size) → scratch ≡ scratch_left files_size files scratch
  unfolding after_call
  left_short s = by_cases (dec_lt (length files) files_size) (λ h. sym (simp (lt-ltb (length files) files_size h)))
      (λ f. sym (simp (le-ltb (length files) files_size (omega arith), lt-ltb (length scratch) scratch_size (⊎_elim (λ h. absurd (f h)) (λ (h : length scratch < scratch_size). h) s))))

  -- long enough: the other checks decide, and scratch is left as zeros
  pub rooms_long : {checks : List Check} {v : Verdict} → (files_size ≤ length files) × (scratch_size ≤ length scratch) → FirstFailure checks v
      → FirstFailure (buffer_check files_size files ∷ buffer_check scratch_size scratch ∷ checks) v
  rooms_long h f = buffer_long h.0 (buffer_long h.1 f)

  pub left_long : (files_size ≤ length files) × (scratch_size ≤ length scratch) → {exit : List ℕ} → exit ≡ replicate (length scratch) 0 → exit ≡ scratch_left files_size files scratch
  unfolding after_call
  left_long h e = e ∙ sym (simp (le-ltb (length files) files_size h.0, le-ltb (length scratch) scratch_size h.1))
