-- `member_call::lasso_grade` meets its contract: the start, or the cycle for an empty one. Assumes nothing.
use Rattle.member_call.proofs.Ways.{turn_answer, start_answer, start_itself}
use Rattle.member_call.proofs.lasso_grade.Goals as goal

pub grade_of-requires : goal.grade_of-requires
grade_of-requires c = record {
  table = c.requires.table;
  lawful = c.requires.lawful;
  call_word = c.requires.call_word_2;
  call_word_2 = c.requires.call_word_2;
  scratch_size_in_bounds = c.requires.scratch_size_in_bounds;
}

pub returns-then-u-lt1 : goal.returns-then-u-lt1
returns-then-u-lt1 c = record {
  grade = turn_answer _ _ _ _ c.if-u-lt1.true c.grade_of.ensures.grade;
  cycle = c.grade_of.ensures.cycle;
}

pub grade_of-requires-2 : goal.grade_of-requires-2
grade_of-requires-2 c = record {
  table = c.requires.table;
  lawful = c.requires.lawful;
  call_word = start_itself _ _ c.if-u-lt1.false c.requires.call_word;
  call_word_2 = c.requires.call_word_2;
  scratch_size_in_bounds = c.requires.scratch_size_in_bounds;
}

pub returns : goal.returns
returns c = record {
  grade = start_answer _ _ _ _ c.if-u-lt1.false c.grade_of-2.ensures.grade;
  cycle = c.grade_of-2.ensures.cycle;
}
