-- The loop holds that the first p rows are written. Assumes nothing.
use borrow.Author.Rules.{rules}
use Rattle.automaton_matrices.proofs.Storing.{stored_none, stored_room, stored_more, stored_all}
use Rattle.automaton_matrices.proofs.store_matrix.Goals as goal

pub loop-p-init : goal.loop-p-init
loop-p-init c = (search rules, stored_none)

pub store_row-requires : goal.store_row-requires
store_row-requires c = stored_room c.requires c.loop-p-test.true c.loop-p.invariant.1

pub loop-p-preserved : goal.loop-p-preserved
loop-p-preserved c =
    (search rules, stored_more c.loop-p.invariant.1 c.store_row.ensures)

pub shape_of-scratch : goal.shape_of-scratch
shape_of-scratch c = c.loop-p.invariant.1.same_length

pub returns : goal.returns
returns c = stored_all c.loop-p.invariant.0 c.loop-p-test.false c.loop-p.invariant.1
