-- `reduce_first_round::outcome` meets its contract: one look in a table of marks. Assumes nothing.
use native.Mathlib.Omega.{arith}
use Rattle.rule_table.proofs.Facts.{product_below}
use Rattle.reduce_first_round.proofs.OutcomeBytes.{look_mark}
use Rattle.reduce_first_round.proofs.outcome.Goals as goal

pub overflow_mul-result : goal.overflow_mul-result
overflow_mul-result c =
    omega (arith, product_below c.requires.table c.requires.s_lt_n.0 c.requires.s_lt_n.1 c.product-t.ensures, c.requires.table.small)

pub overflow_add-result : goal.overflow_add-result
overflow_add-result c =
    omega (arith, product_below c.requires.table c.requires.s_lt_n.0 c.requires.s_lt_n.1 c.product-t.ensures, c.requires.table.small)

pub overflow_add-result-2 : goal.overflow_add-result-2
overflow_add-result-2 c =
    omega (arith, product_below c.requires.table c.requires.s_lt_n.0 c.requires.s_lt_n.1 c.product-t.ensures, c.requires.table.small)

pub bounds-scratch-base : goal.bounds-scratch-base
bounds-scratch-base c =
    omega (arith, product_below c.requires.table c.requires.s_lt_n.0 c.requires.s_lt_n.1 c.product-t.ensures, c.requires.table.small)

pub returns : goal.returns
returns c = look_mark _ _ _ c.product-t.ensures
