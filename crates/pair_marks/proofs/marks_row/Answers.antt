-- `pair_marks::marks_row` meets its contract: the pairs (i, j) that were passed have their marks. Assumes nothing.
use native.Mathlib.Omega.{arith}
use Rattle.scratch.proofs.Rows.{filled_none, filled_more, filled_all}
use Rattle.pair_table.proofs.Kept.{halves_kept}
use Rattle.pair_marks.proofs.Kept.{mark_inside, mark_kept}
use Rattle.pair_marks.proofs.marks_row.Goals as goal

pub loop-j-init : goal.loop-j-init
loop-j-init c = (filled_none _ _, omega arith)

pub mark_byte-mark-requires : goal.mark_byte-mark-requires
mark_byte-mark-requires c = record {
  halves_needs = halves_kept c.loop-j.invariant.0.kept (omega arith) c.requires.halves_needs;
  i_lt_count = (c.requires.i_lt_count, c.loop-j-test.true);
}

pub overflow_mul-scratch : goal.overflow_mul-scratch
overflow_mul-scratch c = omega (arith, c.requires.halves_needs.few)

pub overflow_add-scratch : goal.overflow_add-scratch
overflow_add-scratch c = omega (arith, c.requires.halves_needs.few)

pub overflow_add-scratch-in-loop-j : goal.overflow_add-scratch-in-loop-j
overflow_add-scratch-in-loop-j c = omega (arith, c.requires.halves_needs.few)

pub bounds-scratch-i : goal.bounds-scratch-i
bounds-scratch-i c =
    omega (arith, c.requires.halves_needs.few, c.requires.halves_needs.room, c.loop-j.invariant.0.kept.same_length)

pub loop-j-preserved : goal.loop-j-preserved
loop-j-preserved c =
    let kept = c.loop-j.invariant.0.kept in
    let inside = mark_inside c.requires.halves_needs _ _ c.requires.i_lt_count c.loop-j-test.true kept in (
      filled_more (omega arith) inside c.loop-j.invariant.0
          (mark_kept kept (omega arith) (omega (arith, c.requires.halves_needs.few)) c.requires.halves_needs _ _ _ c.requires.i_lt_count c.loop-j-test.true c.mark_byte-mark.ensures),
      omega arith,
    )

pub shape_of-scratch : goal.shape_of-scratch
shape_of-scratch c = c.loop-j.invariant.0.kept.same_length

pub returns : goal.returns
returns c = filled_all c.loop-j.invariant.1 c.loop-j-test.false c.loop-j.invariant.0
