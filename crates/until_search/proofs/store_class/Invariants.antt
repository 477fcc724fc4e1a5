-- The loop holds that the rows so far are stored. Assumes nothing.
use Prim.Native.Nat.{◌*◌, ◌≤◌}
use mathlib.Core.Path.{◌≡◌}
use Rattle.scratch.specs.Rows.{RowsFilled}
use Rattle.until_step.specs.Bytes.{new_at}
use Rattle.until_search.proofs.store_class.Given as goal

abbrev pub invariant-loop-t : goal.invariant-loop-t
invariant-loop-t l = RowsFilled (λ t z byte. byte ≡ new_at l.scratch t z) (l.count * 4096) 64 l.np l.t l.initial.classes l.classes × (l.t ≤ l.np)
