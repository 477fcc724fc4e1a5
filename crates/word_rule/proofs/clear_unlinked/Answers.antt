-- The loop holds that the rows that were passed have their marks. Assumes nothing.
use native.Mathlib.Omega.{arith}
use Rattle.scratch.specs.Map.{laid_marks_base}
use Rattle.scratch.proofs.Rows.{rows_none, rows_all}
use Rattle.word_rule.proofs.Marks.{needs_kept, row_more}
use Rattle.word_rule.proofs.clear_unlinked.Goals as goal

pub loop-s-init : goal.loop-s-init
loop-s-init c = (rows_none laid_marks_base 64 _ _, omega arith)

pub clear_row-requires : goal.clear_row-requires
clear_row-requires c = record {
  grades_needs = needs_kept c.loop-s.invariant.0.kept c.requires;
  s_lt_count = c.loop-s-test.true;
}

pub loop-s-preserved : goal.loop-s-preserved
loop-s-preserved c =
    (row_more c.requires c.loop-s-test.true c.loop-s.invariant.0 c.clear_row.ensures, omega arith)

pub shape_of-scratch : goal.shape_of-scratch
shape_of-scratch c = c.loop-s.invariant.0.kept.same_length

pub returns : goal.returns
returns c = rows_all c.loop-s.invariant.1 c.loop-s-test.false c.loop-s.invariant.0
