-- `pair_marks::lay_marks` meets its contract: the rows that were passed are laid out. Assumes nothing.
use native.Mathlib.Omega.{arith}
use Rattle.scratch.specs.Map.{laid_marks_base}
use Rattle.scratch.proofs.Rows.{rows_none, rows_more, rows_all}
use Rattle.pair_table.proofs.Kept.{halves_kept}
use Rattle.pair_marks.proofs.Kept.{mark_kept}
use Rattle.pair_marks.proofs.lay_marks.Goals as goal

pub loop-i-init : goal.loop-i-init
loop-i-init c = (rows_none laid_marks_base 64 _ _, omega arith)

pub marks_row-requires : goal.marks_row-requires
marks_row-requires c = record {
  halves_needs = halves_kept c.loop-i.invariant.0.kept (omega arith) c.requires;
  i_lt_count = c.loop-i-test.true;
}

pub loop-i-preserved : goal.loop-i-preserved
loop-i-preserved c = (
  rows_more c.requires.few c.loop-i.invariant.0 c.marks_row.ensures
      (λ j byte h q.
      mark_kept c.loop-i.invariant.0.kept (omega arith) (omega (arith, c.requires.few, c.loop-i.invariant.1)) c.requires _ _ j c.loop-i-test.true h q),
  omega arith,
)

pub shape_of-scratch : goal.shape_of-scratch
shape_of-scratch c = c.loop-i.invariant.0.kept.same_length

pub returns : goal.returns
returns c = rows_all c.loop-i.invariant.1 c.loop-i-test.false c.loop-i.invariant.0
