-- `confirm_grades::column_kept` meets its contract: the outcomes of the values that were passed are kept. Assumes nothing.
use native.Mathlib.Omega.{arith}
use Rattle.theory.proofs.IdempotentPowers.{least_power_idempotent}
use Rattle.finite.proofs.Each.{each_none, each_more, each_all, each_not}
use Rattle.confirm_grades.proofs.Keeping.{outcome_kept, outcome_differs, mapped_small}
use Rattle.confirm_grades.proofs.column_kept.Goals as goal

pub idempotent_power-power-requires : goal.idempotent_power-power-requires
idempotent_power-power-requires c = record {
  table = c.requires.grades_needs.table;
  lawful = c.requires.grades_needs.law;
  x_lt_n = c.requires.z_lt_n1;
}

pub mapped-y-requires : goal.mapped-y-requires
mapped-y-requires c = omega (arith, c.requires.grades_needs.bytes)

pub loop-s-init : goal.loop-s-init
loop-s-init c = each_none

pub outcome-here-requires : goal.outcome-here-requires
outcome-here-requires c = record {
  table = c.requires.grades_needs.table;
  s_lt_n = (omega arith, (least_power_idempotent c.idempotent_power-power.ensures).inside);
  mark_table_size_in_bounds = c.requires.grades_needs.room;
}

pub mapped-t-requires : goal.mapped-t-requires
mapped-t-requires c =
    omega (arith, c.requires.grades_needs.bytes)

pub outcome_at-requires : goal.outcome_at-requires
outcome_at-requires c =
    let start_small = mapped_small c.requires.grades_needs (omega arith) c.mapped-t.ensures in
    let cycle_small = mapped_small c.requires.grades_needs c.requires.z_lt_n1 c.mapped-y.ensures in record {
      s_bound = (omega arith, omega arith);
      scratch_size_in_bounds = c.requires.grades_needs.room;
    }

pub returns-then-here-outcome_at : goal.returns-then-here-outcome_at
returns-then-here-outcome_at c =
    each_not (omega arith)
    (outcome_differs c.requires.grades_needs c.requires.z_lt_n1 c.idempotent_power-power.ensures _ c.outcome-here.ensures
    c.mapped-t.ensures c.mapped-y.ensures c.outcome_at.ensures c.if-here-outcome_at.true)

pub loop-s-preserved : goal.loop-s-preserved
loop-s-preserved c =
    each_more c.loop-s.invariant
    (outcome_kept c.requires.grades_needs c.requires.z_lt_n1 c.idempotent_power-power.ensures _ c.outcome-here.ensures
    c.mapped-t.ensures c.mapped-y.ensures c.outcome_at.ensures c.if-here-outcome_at.false)

pub returns : goal.returns
returns c = each_all c.loop-s.invariant c.loop-s-test.false
