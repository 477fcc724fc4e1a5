-- `automaton_marks::lay_marks_of` meets its contract: the loop holds that the pairs so far have their bytes. Assumes nothing.
use native.Mathlib.Omega.{arith}
use Rattle.scratch.proofs.Rows.{filled_none, filled_all}
use Rattle.automaton_table.proofs.Rows.{marks_place, mark_room, mark_more}
use Rattle.automaton_marks.proofs.lay_marks_of.Goals as goal

pub overflow_mul-base : goal.overflow_mul-base
overflow_mul-base c = omega (arith, c.requires.mark_needs.few)

pub overflow_add-base : goal.overflow_add-base
overflow_add-base c = omega (arith, c.requires.mark_needs.few)

pub loop-e-init : goal.loop-e-init
loop-e-init c = (filled_none _ _, omega arith)

pub mark_byte-byte-requires : goal.mark_byte-byte-requires
mark_byte-byte-requires c = record {
  mark_needs = marks_place c.requires.mark_needs c.loop-e.invariant.0.kept;
  s_lt_count = (omega arith, omega arith);
}

pub overflow_add-scratch : goal.overflow_add-scratch
overflow_add-scratch c =
    omega (arith, c.requires.mark_needs.few)

pub bounds-scratch-base : goal.bounds-scratch-base
bounds-scratch-base c =
    mark_room c.requires.mark_needs c.requires.s_lt_count c.loop-e.invariant.0 c.loop-e-test.true

pub loop-e-preserved : goal.loop-e-preserved
loop-e-preserved c =
    (mark_more c.requires.mark_needs c.requires.s_lt_count c.loop-e.invariant.0 c.loop-e-test.true c.mark_byte-byte.ensures, omega arith)

pub shape_of-scratch : goal.shape_of-scratch
shape_of-scratch c = c.loop-e.invariant.0.kept.same_length

pub returns : goal.returns
returns c = filled_all c.loop-e.invariant.1 c.loop-e-test.false c.loop-e.invariant.0
