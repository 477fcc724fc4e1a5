-- The loop holds that the rows that were passed have what the entry makes of them. Assumes nothing.
use Prim.Native.Nat.{◌≤◌}
use mathlib.Core.Path.{◌≡◌}
use Rattle.scratch.specs.Map.{until_step_base}
use Rattle.scratch.specs.Rows.{RowsFilled}
use Rattle.until_step.specs.Bytes.{stepped_byte}
use Rattle.until_step.proofs.step_rows.Given as goal

abbrev pub invariant-loop-s : goal.invariant-loop-s
invariant-loop-s l = RowsFilled (λ s z byte. byte ≡ stepped_byte l.classes l.initial.scratch l.from s z) until_step_base 64 l.np l.s l.initial.scratch l.scratch × (l.s ≤ l.np)
