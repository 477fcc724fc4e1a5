-- The loop holds the power of x with exponent i + 1 and has found no smaller exponent that makes a power idempotent. One of the first n
-- is, so i stays below n, and the loop ends. Assumes nothing.
use Prim.Native.Nat.{◌-◌}
use Rattle.rule_table.proofs.Tried.{Tried}
use Rattle.rule_table.proofs.idempotent_power.Given as goal

abbrev pub invariant-loop-p : goal.invariant-loop-p
invariant-loop-p l = Tried l.rule l.n l.k l.x l.p l.i

abbrev pub decreases-loop-p : goal.decreases-loop-p
decreases-loop-p l = l.n - l.i
