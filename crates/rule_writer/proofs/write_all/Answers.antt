-- `rule_writer::write_all` meets its contract: each turn writes the pairs of one row more, and the loop ends at the last row.
-- Assumes nothing.
use Rattle.rule_writer.proofs.SoFar.{rows_begin, all_length, rows_place, rows_add, rows_all}
use Rattle.rule_writer.proofs.write_all.Goals as goal

pub loop-s-init : goal.loop-s-init
loop-s-init c = rows_begin c.requires

pub write_row-next-requires : goal.write_row-next-requires
write_row-next-requires c = rows_place c.loop-s.invariant c.loop-s-test.true

pub loop-s-preserved : goal.loop-s-preserved
loop-s-preserved c =
    rows_add c.loop-s.invariant c.loop-s-test.true c.write_row-next.ensures

pub shape_of-out : goal.shape_of-out
shape_of-out c = all_length c.loop-s.invariant

pub returns : goal.returns
returns c = rows_all c.loop-s.invariant c.loop-s-test.false
