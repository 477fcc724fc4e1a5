-- `reduce_first_round::same_outcomes` meets its contract: the elements that were passed tell nothing apart. Assumes nothing.
use native.Mathlib.Omega.{arith}
use Rattle.reduce_first_round.proofs.Comparing.{same_none, same_more, same_all, start_differs, cycle_differs}
use Rattle.reduce_first_round.proofs.same_outcomes.Goals as goal

pub loop-z-init : goal.loop-z-init
loop-z-init c = same_none

pub outcome_at-requires : goal.outcome_at-requires
outcome_at-requires c = record {
  s_bound = (omega (arith, c.requires.table.small), omega (arith, c.requires.table.small));
  scratch_size_in_bounds = c.requires.scratch_size_in_bounds;
}

pub outcome_at-requires-in-loop-z : goal.outcome_at-requires-in-loop-z
outcome_at-requires-in-loop-z c = record {
  s_bound = (omega (arith, c.requires.table.small), omega (arith, c.requires.table.small));
  scratch_size_in_bounds = c.requires.scratch_size_in_bounds;
}

pub returns-then-outcome_at : goal.returns-then-outcome_at
returns-then-outcome_at c = start_differs c.loop-z-test.true c.outcome_at.ensures c.outcome_at-in-loop-z.ensures c.if-outcome_at.true

pub outcome_at-requires-in-loop-z-2 : goal.outcome_at-requires-in-loop-z-2
outcome_at-requires-in-loop-z-2 c = record {
  s_bound = (omega (arith, c.requires.table.small), omega (arith, c.requires.table.small));
  scratch_size_in_bounds = c.requires.scratch_size_in_bounds;
}

pub outcome_at-requires-in-loop-z-3 : goal.outcome_at-requires-in-loop-z-3
outcome_at-requires-in-loop-z-3 c = record {
  s_bound = (omega (arith, c.requires.table.small), omega (arith, c.requires.table.small));
  scratch_size_in_bounds = c.requires.scratch_size_in_bounds;
}

pub returns-then-outcome_at-2 : goal.returns-then-outcome_at-2
returns-then-outcome_at-2 c =
    cycle_differs c.loop-z-test.true c.outcome_at-in-loop-z-2.ensures c.outcome_at-in-loop-z-3.ensures c.if-outcome_at-2.true

pub loop-z-preserved : goal.loop-z-preserved
loop-z-preserved c =
    same_more c.loop-z.invariant c.outcome_at.ensures c.outcome_at-in-loop-z.ensures c.if-outcome_at.false
    c.outcome_at-in-loop-z-2.ensures c.outcome_at-in-loop-z-3.ensures c.if-outcome_at-2.false

pub returns : goal.returns
returns c = same_all c.loop-z.invariant c.loop-z-test.false
