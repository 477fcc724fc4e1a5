-- The value behind the first letter is none or an element. Assumes nothing.
use native.Mathlib.Omega.{arith}
use mir.Facts.{Fits-8_64}
use Rattle.next_rule.proofs.Grades.{grade_none, grade_some}
use Rattle.next_rule.proofs.next_grade.Goals as goal

pub overflow_cast-tail : goal.overflow_cast-tail
overflow_cast-tail c = Fits-8_64 (c.type_inv.scratch _)

pub overflow_cast-whole : goal.overflow_cast-whole
overflow_cast-whole c = Fits-8_64 (c.type_inv.scratch _)

pub outcome_at-requires : goal.outcome_at-requires
outcome_at-requires c = record {
  s_bound = (c.requires.pairs_small.wholes _ c.requires.s_lt_count.1, c.requires.pairs_small.wholes _ c.requires.s_lt_count.1);
  scratch_size_in_bounds = c.requires.pairs_small.room;
}

pub returns-then-tail-eq64 : goal.returns-then-tail-eq64
returns-then-tail-eq64 c = grade_none _ _ _ c.if-tail-eq64.true c.outcome_at.ensures

pub outcome_at-requires-2 : goal.outcome_at-requires-2
outcome_at-requires-2 c = let t = c.requires.pairs_small.tails _ c.requires.s_lt_count.0 in let f = c.if-tail-eq64.false in record {
  s_bound = (omega arith, c.requires.pairs_small.wholes _ c.requires.s_lt_count.1);
  scratch_size_in_bounds = c.requires.pairs_small.room;
}

pub returns : goal.returns
returns c = grade_some _ _ _ c.if-tail-eq64.false c.outcome_at-2.ensures
