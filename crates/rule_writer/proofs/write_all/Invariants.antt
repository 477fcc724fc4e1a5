-- `rule_writer::write_all` meets its contract: each turn writes the pairs of one row more, and the loop ends at the last row.
-- Assumes nothing.
use Rattle.rule_writer.proofs.SoFar.{RowsSoFar}
use Rattle.rule_writer.proofs.write_all.Given as goal

abbrev pub invariant-loop-s : goal.invariant-loop-s
invariant-loop-s l = RowsSoFar l.marks l.n l.initial.out l.at l.out l.next l.s
