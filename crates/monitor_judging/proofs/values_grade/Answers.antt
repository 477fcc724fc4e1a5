-- `monitor_judging::values_grade` meets its contract: one look in the table of marks, at the settled pair. Assumes nothing.
use native.Mathlib.Omega.{arith}
use mir.Facts.{Fits-8_64}
use Rattle.theory.proofs.IdempotentPowers.{least_power_idempotent}
use Rattle.rule_table.proofs.Facts.{table_place}
use Rattle.monitor_judging.proofs.Settled.{pair_below, settled_byte}
use Rattle.monitor_judging.proofs.values_grade.Goals as goal

pub product-s-requires : goal.product-s-requires
product-s-requires c =
    table_place c.requires.table c.requires.before_lt_n.0 (least_power_idempotent c.idempotent_power-power.ensures).inside

pub overflow_mul-grade : goal.overflow_mul-grade
overflow_mul-grade c =
    omega (arith, pair_below _ _ _ _ c.requires.lawful c.requires.before_lt_n.1 c.idempotent_power-power.ensures c.requires.table c.requires.before_lt_n.0 c.product-s.ensures)

pub overflow_add-grade : goal.overflow_add-grade
overflow_add-grade c =
    omega (arith, pair_below _ _ _ _ c.requires.lawful c.requires.before_lt_n.1 c.idempotent_power-power.ensures c.requires.table c.requires.before_lt_n.0 c.product-s.ensures)

pub overflow_add-grade-2 : goal.overflow_add-grade-2
overflow_add-grade-2 c =
    omega (arith, pair_below _ _ _ _ c.requires.lawful c.requires.before_lt_n.1 c.idempotent_power-power.ensures c.requires.table c.requires.before_lt_n.0 c.product-s.ensures)

pub bounds-scratch-s : goal.bounds-scratch-s
bounds-scratch-s c =
    omega (arith, pair_below _ _ _ _ c.requires.lawful c.requires.before_lt_n.1 c.idempotent_power-power.ensures c.requires.table c.requires.before_lt_n.0 c.product-s.ensures)

pub overflow_cast-grade : goal.overflow_cast-grade
overflow_cast-grade c = Fits-8_64 (c.type_inv.scratch _)

pub returns : goal.returns
returns c =
    let power = c.idempotent_power-power.ensures in record {
      grade = settled_byte _ _ _ _ c.requires.lawful c.requires.before_lt_n.1 power _ _ c.product-s.ensures;
      turns = power.exponent_is;
    }
