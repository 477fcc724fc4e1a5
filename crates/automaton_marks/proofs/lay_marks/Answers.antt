-- `automaton_marks::lay_marks` meets its contract: the loop holds that the rows so far have their bytes. Assumes nothing.
use native.Mathlib.Omega.{arith}
use Rattle.scratch.proofs.Rows.{rows_none, rows_all}
use Rattle.automaton_table.proofs.Rows.{marks_place, marks_more}
use Rattle.automaton_marks.proofs.lay_marks.Goals as goal

pub loop-s-init : goal.loop-s-init
loop-s-init c = (rows_none _ _ _ _, omega arith)

pub lay_marks_of-requires : goal.lay_marks_of-requires
lay_marks_of-requires c = record {
  mark_needs = marks_place c.requires c.loop-s.invariant.0.kept;
  s_lt_count = c.loop-s-test.true;
}

pub loop-s-preserved : goal.loop-s-preserved
loop-s-preserved c =
    (marks_more c.requires c.loop-s-test.true c.loop-s.invariant.0 c.lay_marks_of.ensures, omega arith)

pub shape_of-scratch : goal.shape_of-scratch
shape_of-scratch c = c.loop-s.invariant.0.kept.same_length

pub returns : goal.returns
returns c = rows_all c.loop-s.invariant.1 c.loop-s-test.false c.loop-s.invariant.0
