-- The table behind the first marks is made blank, and the second section is laid out there. Assumes nothing.
use native.Mathlib.Omega.{arith}
use Rattle.included_call.proofs.Laying.{second_space, laid_answer}
use Rattle.included_call.proofs.lay_second.Goals as goal

pub zero_part-requires : goal.zero_part-requires
zero_part-requires c = (omega arith, omega (arith, c.requires.scratch_size_in_bounds))

pub second_marks-requires : goal.second_marks-requires
second_marks-requires c = record {
  table = c.requires.table;
  n_value = c.requires.n_value;
  marks_space = second_space c.requires.scratch_size_in_bounds c.zero_part.ensures;
}

pub returns : goal.returns
returns c = record {
  refusal = c.second_marks.ensures.refusal;
  laid = laid_answer c.requires.scratch_size_in_bounds c.zero_part.ensures _ c.requires.table.small _ c.second_marks.result c.second_marks.ensures.laid;
}
