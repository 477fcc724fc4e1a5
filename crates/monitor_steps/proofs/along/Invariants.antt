-- `monitor_steps::along` meets its contract: each turn multiplies by one letter's element. Assumes nothing.
use Prim.Native.Nat.{◌+◌}
use Rattle.monitor_steps.proofs.WordMoving.{Going}
use Rattle.monitor_steps.proofs.along.Given as goal

abbrev pub invariant-loop-letter : goal.invariant-loop-letter
invariant-loop-letter l = Going l.rule l.n l.k l.since l.word l.from l.value (l.from + l.letter-index)
