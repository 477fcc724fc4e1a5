-- `rule_bytes::write_mark` meets its contract: a marked pair is written by three stores, and one that is not marked leaves the
-- buffer as it is. Assumes nothing.
use native.Mathlib.Omega.{arith}
use lib.ListN.{length-set}
use Rattle.rule_bytes.proofs.Marks.{mark_in, mark_out}
use Rattle.rule_bytes.proofs.write_mark.Goals as goal

pub bounds-out-at-then-grade-gt0 : goal.bounds-out-at-then-grade-gt0
bounds-out-at-then-grade-gt0 c = simp length-set (omega arith)

pub bounds-out-at-then-grade-gt0-2 : goal.bounds-out-at-then-grade-gt0-2
bounds-out-at-then-grade-gt0-2 c = simp length-set (omega arith)

pub returns-then-grade-gt0 : goal.returns-then-grade-gt0
returns-then-grade-gt0 c = mark_in _ _ _ _ _ c.if-grade-gt0.true c.requires.room

pub returns : goal.returns
returns c = mark_out _ _ _ _ _ c.if-grade-gt0.false
