-- The loop holds that the contexts (s, z) that were passed have what the entry makes of them. Assumes nothing.
use Prim.Native.Nat.{◌+◌, ◌*◌, ◌≤◌}
use mathlib.Core.Path.{◌≡◌}
use Rattle.scratch.specs.Map.{until_step_base}
use Rattle.scratch.specs.Rows.{RowFilled}
use Rattle.until_step.specs.Bytes.{stepped_byte}
use Rattle.until_step.proofs.step_row.Given as goal

abbrev pub invariant-loop-z : goal.invariant-loop-z
invariant-loop-z l = RowFilled (λ z byte. byte ≡ stepped_byte l.classes l.initial.scratch l.from l.s z) (until_step_base + l.s * 64) l.z l.initial.scratch l.scratch × (l.z ≤ l.np)
