-- `rule_laid::laid_linked` meets its contract: the two products are read, and each way through the tests is one of its cases.
-- Assumes nothing.
use native.Mathlib.Omega.{arith}
use mir.Facts.{Fits-8_64}
use Rattle.scratch.proofs.Rows.{pair_small}
use Rattle.rule_laid.proofs.laid_linked.Goals as goal

pub overflow_mul-e : goal.overflow_mul-e
overflow_mul-e c = omega (arith, pair_small _ _ _ c.requires.count_bound.0 c.requires.s_lt_count.1 c.requires.s_lt_count.1)

pub overflow_add-e : goal.overflow_add-e
overflow_add-e c = omega (arith, pair_small _ _ _ c.requires.count_bound.0 c.requires.s_lt_count.1 c.requires.s_lt_count.1)

pub overflow_add-e-2 : goal.overflow_add-e-2
overflow_add-e-2 c = omega (arith, pair_small _ _ _ c.requires.count_bound.0 c.requires.s_lt_count.1 c.requires.s_lt_count.1)

pub bounds-scratch-e : goal.bounds-scratch-e
bounds-scratch-e c = omega (arith, pair_small _ _ _ c.requires.count_bound.0 c.requires.s_lt_count.1 c.requires.s_lt_count.1)

pub overflow_cast-scratch : goal.overflow_cast-scratch
overflow_cast-scratch c = Fits-8_64 (c.type_inv.scratch _)

pub overflow_mul-s : goal.overflow_mul-s
overflow_mul-s c = omega (arith, pair_small _ _ _ c.requires.count_bound.0 c.requires.s_lt_count.0 c.requires.s_lt_count.1)

pub overflow_add-s : goal.overflow_add-s
overflow_add-s c = omega (arith, pair_small _ _ _ c.requires.count_bound.0 c.requires.s_lt_count.0 c.requires.s_lt_count.1)

pub overflow_add-s-2 : goal.overflow_add-s-2
overflow_add-s-2 c = omega (arith, pair_small _ _ _ c.requires.count_bound.0 c.requires.s_lt_count.0 c.requires.s_lt_count.1)

pub bounds-scratch-s : goal.bounds-scratch-s
bounds-scratch-s c = omega (arith, pair_small _ _ _ c.requires.count_bound.0 c.requires.s_lt_count.0 c.requires.s_lt_count.1)

pub overflow_cast-scratch-2 : goal.overflow_cast-scratch-2
overflow_cast-scratch-2 c = Fits-8_64 (c.type_inv.scratch _)
