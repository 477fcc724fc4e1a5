-- `reduce_first_round::outcomes` meets its contract: the columns that were passed are written. Assumes nothing.
use Rattle.scratch.proofs.Unchanged.{unchanged_room}
use Rattle.reduce_first_round.proofs.OutcomeBytes.{outcomes_none, outcomes_more, outcomes_all}
use Rattle.reduce_first_round.proofs.outcomes.Goals as goal

pub loop-z-init : goal.loop-z-init
loop-z-init c = outcomes_none c.requires.lawful c.requires.table.small _

pub outcome_column-requires : goal.outcome_column-requires
outcome_column-requires c = record {
  table = c.requires.table;
  lawful = c.requires.lawful;
  z_lt_n = c.loop-z-test.true;
  scratch_size_in_bounds = unchanged_room c.loop-z.invariant.kept c.requires.scratch_size_in_bounds;
}

pub loop-z-preserved : goal.loop-z-preserved
loop-z-preserved c =
    outcomes_more c.requires.lawful c.requires.table.small c.loop-z-test.true
    c.loop-z.invariant c.outcome_column.ensures

pub shape_of-scratch : goal.shape_of-scratch
shape_of-scratch c = c.loop-z.invariant.kept.same_length

pub returns : goal.returns
returns c =
    outcomes_all c.requires.lawful c.requires.table.small c.loop-z-test.false c.loop-z.invariant
