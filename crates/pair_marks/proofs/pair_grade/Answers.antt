-- `pair_marks::pair_grade` meets its contract: the halves are elements, so their grades stand in the tables. Assumes nothing.
use native.Mathlib.Omega.{arith}
use mir.Facts.{Fits-8_64}
use Rattle.scratch.specs.Map.{marks_from}
use Rattle.pair_marks.specs.Marks.{pair_grade}
use Rattle.pair_marks.proofs.pair_grade.Goals as goal

pub overflow_cast-a : goal.overflow_cast-a
overflow_cast-a c = Fits-8_64 (c.type_inv.scratch _)

pub overflow_cast-b : goal.overflow_cast-b
overflow_cast-b c = Fits-8_64 (c.type_inv.scratch _)

pub overflow_cast-c : goal.overflow_cast-c
overflow_cast-c c = Fits-8_64 (c.type_inv.scratch _)

pub overflow_cast-d : goal.overflow_cast-d
overflow_cast-d c = Fits-8_64 (c.type_inv.scratch _)

pub overflow_mul-a : goal.overflow_mul-a
overflow_mul-a c = omega (arith, c.requires.halves_needs.lefts _ c.requires.i_lt_count.0)

pub overflow_add-a-2 : goal.overflow_add-a-2
overflow_add-a-2 c =
    omega (arith, c.requires.halves_needs.lefts _ c.requires.i_lt_count.0, c.requires.halves_needs.lefts _ c.requires.i_lt_count.1)

pub overflow_add-a-3 : goal.overflow_add-a-3
overflow_add-a-3 c =
    omega (arith, c.requires.halves_needs.lefts _ c.requires.i_lt_count.0, c.requires.halves_needs.lefts _ c.requires.i_lt_count.1)

pub bounds-scratch-a : goal.bounds-scratch-a
bounds-scratch-a c =
    omega (arith, c.requires.halves_needs.lefts _ c.requires.i_lt_count.0, c.requires.halves_needs.lefts _ c.requires.i_lt_count.1, c.requires.halves_needs.room)

pub overflow_mul-c : goal.overflow_mul-c
overflow_mul-c c =
    omega (arith, c.requires.halves_needs.rights _ c.requires.i_lt_count.0)

pub overflow_add-c-2 : goal.overflow_add-c-2
overflow_add-c-2 c =
    omega (arith, c.requires.halves_needs.rights _ c.requires.i_lt_count.0, c.requires.halves_needs.rights _ c.requires.i_lt_count.1)

pub overflow_add-c-3 : goal.overflow_add-c-3
overflow_add-c-3 c =
    omega (arith, c.requires.halves_needs.rights _ c.requires.i_lt_count.0, c.requires.halves_needs.rights _ c.requires.i_lt_count.1)

pub bounds-scratch-c : goal.bounds-scratch-c
bounds-scratch-c c =
    omega (arith, c.requires.halves_needs.rights _ c.requires.i_lt_count.0, c.requires.halves_needs.rights _ c.requires.i_lt_count.1, c.requires.halves_needs.room)

pub returns : goal.returns
unfolding pair_grade marks_from
returns c = c.combine_grades.ensures
