-- A look by the idempotent power. Assumes nothing.
use Rattle.theory.proofs.IdempotentPowers.{least_power_idempotent}
use Rattle.until_grades.proofs.Grades.{look_found}
use Rattle.until_grades.proofs.grade_of.Goals as goal

pub idempotent_power-power-requires : goal.idempotent_power-power-requires
idempotent_power-power-requires c = record {
  table = c.requires.table;
  lawful = c.requires.lawful;
  x_lt_n = c.requires.s_lt_n.1;
}

pub outcome-requires : goal.outcome-requires
outcome-requires c = record {
  table = c.requires.table;
  s_lt_n = (c.requires.s_lt_n.0, (least_power_idempotent c.idempotent_power-power.ensures).inside);
  mark_table_size_in_bounds = c.requires.s_lt_n.2;
}

pub returns : goal.returns
returns c = look_found _ _ _ c.requires.lawful c.requires.s_lt_n.1 c.idempotent_power-power.ensures c.outcome.ensures
