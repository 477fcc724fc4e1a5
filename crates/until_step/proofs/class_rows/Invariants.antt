-- The loop holds that the rows that were passed are copied. Assumes nothing.
use Prim.Native.Nat.{◌≤◌}
use mathlib.Core.Path.{◌≡◌}
use Rattle.scratch.specs.Map.{until_class_base}
use Rattle.scratch.specs.Rows.{RowsFilled}
use Rattle.until_step.specs.Bytes.{letter_byte}
use Rattle.until_step.proofs.class_rows.Given as goal

abbrev pub invariant-loop-t : goal.invariant-loop-t
invariant-loop-t l = RowsFilled (λ t z byte. byte ≡ letter_byte l.initial.scratch l.np l.element t z) until_class_base 64 l.np l.t l.initial.scratch l.scratch × (l.t ≤ l.np)
