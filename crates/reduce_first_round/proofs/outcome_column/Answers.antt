-- `reduce_first_round::outcome_column` meets its contract: the outcomes of the elements that were passed are written. Assumes nothing.
use native.Mathlib.Omega.{arith}
use Rattle.theory.proofs.IdempotentPowers.{least_power_idempotent}
use Rattle.scratch.proofs.Unchanged.{unchanged_room}
use Rattle.reduce_first_round.proofs.OutcomeBytes.{column_none, column_more, column_all}
use Rattle.reduce_first_round.proofs.outcome_column.Goals as goal

pub idempotent_power-power-requires : goal.idempotent_power-power-requires
idempotent_power-power-requires c = record {
  table = c.requires.table;
  lawful = c.requires.lawful;
  x_lt_n = c.requires.z_lt_n;
}

pub loop-s-init : goal.loop-s-init
loop-s-init c =
    column_none c.requires.lawful c.requires.table.small _ _

pub outcome-found-requires : goal.outcome-found-requires
outcome-found-requires c = record {
  table = c.requires.table;
  s_lt_n = (c.loop-s-test.true, (least_power_idempotent c.idempotent_power-power.ensures).inside);
  mark_table_size_in_bounds = omega (arith, unchanged_room c.loop-s.invariant.kept c.requires.scratch_size_in_bounds);
}

pub overflow_mul-scratch : goal.overflow_mul-scratch
overflow_mul-scratch c =
    omega (arith, c.requires.table.small)

pub overflow_add-scratch : goal.overflow_add-scratch
overflow_add-scratch c =
    omega (arith, c.requires.table.small)

pub overflow_add-scratch-in-loop-s : goal.overflow_add-scratch-in-loop-s
overflow_add-scratch-in-loop-s c =
    omega (arith, c.requires.table.small)

pub bounds-scratch-s : goal.bounds-scratch-s
bounds-scratch-s c =
    omega (arith, c.requires.table.small, unchanged_room c.loop-s.invariant.kept c.requires.scratch_size_in_bounds)

pub loop-s-preserved : goal.loop-s-preserved
loop-s-preserved c =
    column_more c.requires.lawful c.requires.table.small c.requires.z_lt_n c.loop-s-test.true c.requires.scratch_size_in_bounds
    c.idempotent_power-power.ensures c.outcome-found.ensures c.loop-s.invariant

pub shape_of-scratch : goal.shape_of-scratch
shape_of-scratch c = c.loop-s.invariant.kept.same_length

pub returns : goal.returns
returns c =
    column_all c.requires.lawful c.requires.table.small c.loop-s-test.false c.loop-s.invariant
