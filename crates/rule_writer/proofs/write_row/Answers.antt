-- `rule_writer::write_row` meets its contract: each turn writes one pair more of the row where it is marked, and the loop ends at
-- the last. Assumes nothing.
use Rattle.rule_writer.proofs.SoFar.{row_start, row_length, row_place, row_next, row_all}
use Rattle.rule_writer.proofs.write_row.Goals as goal

pub loop-e-init : goal.loop-e-init
loop-e-init c = row_start c.requires

pub write_mark-next-requires : goal.write_mark-next-requires
write_mark-next-requires c = row_place c.loop-e.invariant c.loop-e-test.true

pub loop-e-preserved : goal.loop-e-preserved
loop-e-preserved c =
    row_next c.loop-e.invariant c.loop-e-test.true c.write_mark-next.ensures

pub shape_of-out : goal.shape_of-out
shape_of-out c = row_length c.loop-e.invariant

pub returns : goal.returns
returns c = row_all c.loop-e.invariant c.loop-e-test.false
