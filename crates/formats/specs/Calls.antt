-- What every call that gets a rule does first and leaves at its end: "First 13", then the rule's checks; and the scratch after it.
-- Assumes nothing.
use Rattle.std.specs.Prelude.{ℕ, cond, List, ◌∷◌, length, replicate, ltb}
use Rattle.answer.specs.Checks.{Check}
use Rattle.formats.specs.RuleChecks.{rule_checks, buffer_check, scratch_size}

-- the scratch that a finished call leaves: as it came where it is short, else zeros over its whole length
unfoldable pub after_call : List ℕ → List ℕ
after_call scratch = cond (ltb (length scratch) scratch_size) scratch (replicate (length scratch) 0)

-- that of a call which needs another buffer too: as it came where that buffer is short
abbrev pub scratch_left : ℕ → List ℕ → List ℕ → List ℕ
scratch_left needed buffer scratch = cond (ltb (length buffer) needed) scratch (after_call scratch)

-- "First 13", then the rule's own checks
abbrev pub checked_checks : ℕ → List ℕ → List ℕ → List Check
checked_checks input bytes scratch = buffer_check scratch_size scratch ∷ rule_checks input bytes
