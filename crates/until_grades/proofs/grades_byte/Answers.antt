-- Both grades of the halves. Assumes nothing.
use native.Mathlib.Omega.{arith}
use mir.Facts.{Fits-8_64}
use Rattle.until_grades.proofs.Grades.{both_are, both_small}
use Rattle.until_grades.proofs.grades_byte.Goals as goal

pub overflow_add-s1 : goal.overflow_add-s1
overflow_add-s1 c = omega (arith, c.requires.t_lt_count.0, c.requires.grades_needs.few)

pub bounds-scratch-t : goal.bounds-scratch-t
bounds-scratch-t c = omega (arith, c.requires.t_lt_count.0, c.requires.grades_needs.few, c.requires.grades_needs.room)

pub overflow_cast-s1 : goal.overflow_cast-s1
overflow_cast-s1 c = Fits-8_64 (c.type_inv.scratch _)

pub overflow_add-z1 : goal.overflow_add-z1
overflow_add-z1 c = omega (arith, c.requires.t_lt_count.1, c.requires.grades_needs.few)

pub bounds-scratch-z : goal.bounds-scratch-z
bounds-scratch-z c = omega (arith, c.requires.t_lt_count.1, c.requires.grades_needs.few, c.requires.grades_needs.room)

pub overflow_cast-z1 : goal.overflow_cast-z1
overflow_cast-z1 c = Fits-8_64 (c.type_inv.scratch _)

pub overflow_add-s2 : goal.overflow_add-s2
overflow_add-s2 c = omega (arith, c.requires.t_lt_count.0, c.requires.grades_needs.few)

pub bounds-scratch-t-2 : goal.bounds-scratch-t-2
bounds-scratch-t-2 c = omega (arith, c.requires.t_lt_count.0, c.requires.grades_needs.few, c.requires.grades_needs.room)

pub overflow_cast-s2 : goal.overflow_cast-s2
overflow_cast-s2 c = Fits-8_64 (c.type_inv.scratch _)

pub overflow_add-z2 : goal.overflow_add-z2
overflow_add-z2 c = omega (arith, c.requires.t_lt_count.1, c.requires.grades_needs.few)

pub bounds-scratch-z-2 : goal.bounds-scratch-z-2
bounds-scratch-z-2 c = omega (arith, c.requires.t_lt_count.1, c.requires.grades_needs.few, c.requires.grades_needs.room)

pub overflow_cast-z2 : goal.overflow_cast-z2
overflow_cast-z2 c = Fits-8_64 (c.type_inv.scratch _)

pub grade_of-a-requires : goal.grade_of-a-requires
grade_of-a-requires c = record {
  table = c.requires.grades_needs.tables.first_is_table;
  lawful = c.requires.grades_needs.tables.first_law;
  s_lt_n = (c.requires.grades_needs.lefts _ c.requires.t_lt_count.0, c.requires.grades_needs.lefts _ c.requires.t_lt_count.1, omega (arith, c.requires.grades_needs.room));
}

pub grade_of-b-requires : goal.grade_of-b-requires
grade_of-b-requires c = record {
  table = c.requires.grades_needs.tables.second_is_table;
  lawful = c.requires.grades_needs.tables.second_law;
  s_lt_n = (c.requires.grades_needs.rights _ c.requires.t_lt_count.0, c.requires.grades_needs.rights _ c.requires.t_lt_count.1, omega (arith, c.requires.grades_needs.room));
}

pub both_grades-requires : goal.both_grades-requires
both_grades-requires c = both_small c.requires.grades_needs c.requires.t_lt_count.0 c.requires.t_lt_count.1 c.grade_of-a.ensures c.grade_of-b.ensures

pub returns : goal.returns
returns c = both_are _ _ _ _ _ _ _ _ c.grade_of-a.ensures c.grade_of-b.ensures c.both_grades.ensures
