-- `board_buffers::clear` meets its contract: each turn makes one more byte 0. Assumes nothing.
use Prim.Native.Nat.{◌≤◌}
use mathlib.Core.Path.{◌≡◌}
use mathlib.Core.List.{◌++◌}
use lib.ListN.{length, drop, replicate}
use Rattle.board_buffers.proofs.clear.Given as goal

abbrev pub invariant-loop-i : goal.invariant-loop-i
invariant-loop-i l = (l.scratch ≡ replicate l.i 0 ++ drop l.i l.initial.scratch) × (l.i ≤ length l.initial.scratch) × (l.i-end ≡ length l.initial.scratch)
