-- The loop holds the power of x with exponent i + 1 and has found no smaller exponent that makes a power idempotent. One of the first n
-- is, so i stays below n, and the loop ends. Assumes nothing.
use native.Mathlib.Omega.{arith}
use Rattle.rule_table.proofs.Facts.{table_place}
use Rattle.rule_table.proofs.Tried.{tried_start, tried_next, tried_found, tried_below}
use Rattle.rule_table.proofs.idempotent_power.Goals as goal

pub loop-p-init : goal.loop-p-init
loop-p-init c = tried_start c.requires.table c.requires.lawful c.requires.x_lt_n

pub product-square-requires : goal.product-square-requires
product-square-requires c = table_place c.loop-p.invariant.table c.loop-p.invariant.inside c.loop-p.invariant.inside

pub overflow_add-result : goal.overflow_add-result
overflow_add-result c = omega (arith, tried_below c.loop-p.invariant, c.loop-p.invariant.table.small)

pub returns-then-square-p : goal.returns-then-square-p
returns-then-square-p c = tried_found c.loop-p.invariant c.product-square.ensures c.if-square-p.true

pub product-p-requires : goal.product-p-requires
product-p-requires c = table_place c.loop-p.invariant.table c.loop-p.invariant.inside c.loop-p.invariant.base

pub overflow_add-i : goal.overflow_add-i
overflow_add-i c = omega (arith, tried_below c.loop-p.invariant, c.loop-p.invariant.table.small)

pub loop-p-smaller : goal.loop-p-smaller
loop-p-smaller c = omega (arith, tried_below c.loop-p.invariant)

pub loop-p-preserved : goal.loop-p-preserved
loop-p-preserved c = tried_next c.loop-p.invariant c.product-square.ensures c.if-square-p.false c.product-p.ensures
