-- `mark_closure::byte_after` meets its contract: each way through the tests is one of its cases. Assumes nothing.
use Prim.Native.Nat.{◌<◌}
use native.Mathlib.Omega.{arith}
use Rattle.rule_table.proofs.Facts.{product_below}
use Rattle.theory.proofs.BestConjugates.{better_moved}
use Rattle.mark_closure.proofs.Columns.{after_lower, after_higher}
use Rattle.mark_closure.proofs.byte_after.Goals as goal

-- s·x is an element
start_below : (c : goal.After-product-t) → c.product-t.result < c.args.n
start_below c =
    product_below c.requires.table c.requires.x_lt_n.3 c.requires.x_lt_n.0 c.product-t.ensures

-- s·x is an element
start_below-2 : (c : goal.After-shared_slice_known-4-1-unread) → c.product-t.result < c.args.n
start_below-2 c =
    product_below c.requires.table c.requires.x_lt_n.3 c.requires.x_lt_n.0 c.product-t.ensures

pub returns-then-kept-s : goal.returns-then-kept-s
returns-then-kept-s c = better_moved c.product-kept.ensures c.if-kept-s.true

pub overflow_mul-mark : goal.overflow_mul-mark
overflow_mul-mark c = omega (arith, start_below c)

pub overflow_add-mark : goal.overflow_add-mark
overflow_add-mark c = omega (arith, start_below c)

pub bounds-scratch-t : goal.bounds-scratch-t
bounds-scratch-t c = omega (arith, start_below-2 c)

pub returns-then-mark-old : goal.returns-then-mark-old
returns-then-mark-old c =
    after_lower _ c.args.scratch.now _ _ _ _ _ c.product-kept.ensures c.product-t.ensures c.if-mark-old.true

pub returns : goal.returns
returns c =
    after_higher _ c.args.scratch.now _ _ _ _ _ c.product-kept.ensures c.product-t.ensures c.if-kept-s.false c.if-mark-old.false
