-- The loop holds that the contexts (t, z) that were passed have their bytes. Assumes nothing.
use native.Mathlib.Omega.{arith}
use Rattle.scratch.proofs.Rows.{filled_none, filled_all}
use Rattle.until_grades.proofs.Grades.{row_needs, byte_room, byte_more}
use Rattle.until_grades.proofs.grades_row.Goals as goal

pub loop-z-init : goal.loop-z-init
loop-z-init c = (filled_none _ _, omega arith)

pub grades_byte-byte-requires : goal.grades_byte-byte-requires
grades_byte-byte-requires c = record {
  grades_needs = row_needs c.requires.grades_needs c.requires.t_lt_count c.loop-z.invariant.0 c.loop-z-test.true;
  t_lt_count = (c.requires.t_lt_count, c.loop-z-test.true);
}

pub overflow_mul-scratch : goal.overflow_mul-scratch
overflow_mul-scratch c = omega (arith, c.requires.t_lt_count, c.requires.grades_needs.few)

pub overflow_add-scratch : goal.overflow_add-scratch
overflow_add-scratch c = omega (arith, c.requires.t_lt_count, c.requires.grades_needs.few)

pub overflow_add-scratch-in-loop-z : goal.overflow_add-scratch-in-loop-z
overflow_add-scratch-in-loop-z c = omega (arith, c.requires.t_lt_count, c.requires.grades_needs.few)

pub bounds-scratch-t : goal.bounds-scratch-t
bounds-scratch-t c = byte_room c.requires.grades_needs c.requires.t_lt_count c.loop-z.invariant.0 c.loop-z-test.true

pub loop-z-preserved : goal.loop-z-preserved
loop-z-preserved c = (byte_more c.requires.grades_needs c.requires.t_lt_count c.loop-z.invariant.0 c.loop-z-test.true c.grades_byte-byte.ensures, omega arith)

pub shape_of-scratch : goal.shape_of-scratch
shape_of-scratch c = c.loop-z.invariant.0.kept.same_length

pub returns : goal.returns
returns c = filled_all c.loop-z.invariant.1 c.loop-z-test.false c.loop-z.invariant.0
