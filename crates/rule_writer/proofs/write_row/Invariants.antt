-- `rule_writer::write_row` meets its contract: each turn writes one pair more of the row where it is marked, and the loop ends at
-- the last. Assumes nothing.
use Rattle.rule_writer.proofs.SoFar.{RowSoFar}
use Rattle.rule_writer.proofs.write_row.Given as goal

abbrev pub invariant-loop-e : goal.invariant-loop-e
invariant-loop-e l = RowSoFar l.marks l.n l.s l.initial.out l.at l.out l.next l.e
