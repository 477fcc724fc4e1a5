-- Both clamps at the context of the cycle. Assumes nothing.
use native.Mathlib.Omega.{arith}
use mir.Facts.{Fits-8_64}
use Rattle.until_marks.proofs.Marks.{grade_is}
use Rattle.until_marks.proofs.until_grade.Goals as goal

pub overflow_add-pair : goal.overflow_add-pair
overflow_add-pair c = omega (arith, c.requires.s_lt_count.1, c.requires.classes_small.few)

pub bounds-scratch-e : goal.bounds-scratch-e
bounds-scratch-e c = omega (arith, c.requires.s_lt_count.1, c.requires.classes_small.few, c.requires.classes_small.room)

pub overflow_cast-pair : goal.overflow_cast-pair
overflow_cast-pair c = Fits-8_64 (c.type_inv.scratch _)

pub overflow_mul-start : goal.overflow_mul-start
overflow_mul-start c = omega (arith, c.requires.s_lt_count.0, c.requires.classes_small.few)

pub overflow_mul-start-2 : goal.overflow_mul-start-2
overflow_mul-start-2 c = omega (arith, c.requires.classes_small.pairs _ c.requires.s_lt_count.1)

pub overflow_add-start : goal.overflow_add-start
overflow_add-start c = omega (arith, c.requires.classes_small.pairs _ c.requires.s_lt_count.1)

pub overflow_add-start-2 : goal.overflow_add-start-2
overflow_add-start-2 c = omega (arith, c.requires.s_lt_count.0, c.requires.classes_small.few, c.requires.classes_small.pairs _ c.requires.s_lt_count.1)

pub bounds-classes-s : goal.bounds-classes-s
bounds-classes-s c = omega (arith, c.requires.s_lt_count.0, c.requires.classes_small.few, c.requires.classes_small.pairs _ c.requires.s_lt_count.1, c.requires.classes_small.classes_room)

pub overflow_mul-cycle : goal.overflow_mul-cycle
overflow_mul-cycle c = omega (arith, c.requires.s_lt_count.1, c.requires.classes_small.few)

pub overflow_mul-cycle-2 : goal.overflow_mul-cycle-2
overflow_mul-cycle-2 c = omega (arith, c.requires.classes_small.pairs _ c.requires.s_lt_count.1)

pub overflow_add-cycle : goal.overflow_add-cycle
overflow_add-cycle c = omega (arith, c.requires.classes_small.pairs _ c.requires.s_lt_count.1)

pub overflow_add-cycle-2 : goal.overflow_add-cycle-2
overflow_add-cycle-2 c = omega (arith, c.requires.s_lt_count.1, c.requires.classes_small.few, c.requires.classes_small.pairs _ c.requires.s_lt_count.1)

pub bounds-classes-e : goal.bounds-classes-e
bounds-classes-e c = omega (arith, c.requires.s_lt_count.1, c.requires.classes_small.few, c.requires.classes_small.pairs _ c.requires.s_lt_count.1, c.requires.classes_small.classes_room)

pub clamp_over-requires : goal.clamp_over-requires
clamp_over-requires c = (c.requires.classes_small.clamps _ _ c.requires.s_lt_count.0 c.requires.s_lt_count.1, c.requires.classes_small.clamps _ _ c.requires.s_lt_count.1 c.requires.s_lt_count.1)

pub returns : goal.returns
returns c =
    grade_is c.requires.classes_small c.requires.s_lt_count.0 c.requires.s_lt_count.1 c.clamp_over.ensures
