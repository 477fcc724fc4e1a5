-- The loop holds that (g·y)·h is g·(y·h) for every y that was passed, where the flag stands. The measure is the number of elements left. Assumes nothing.
use Prim.Native.Nat.{◌<◌}
use mathlib.Core.Logic.{inl, inr}
use native.Mathlib.Omega.{arith}
use Rattle.rule_table.proofs.Facts.{table_place, product_below}
use Rattle.rule_associating.proofs.Passed.{between_start, between_next, between_all}
use Rattle.rule_associating.proofs.between.Goals as goal
use Rattle.rule_associating.proofs.between.Goals.{then-left-right, else-left-right}

-- a product is an element
product_inside : (c : goal.After-xh-1) → c.product-gx.result < c.args.n
product_inside c = product_below c.loop-x.invariant.table (omega arith) (omega arith) c.product-gx.ensures

-- a product is an element
product_inside_2 : (c : goal.After-left-1) → c.product-gx.result < c.args.n
product_inside_2 c = product_below c.loop-x.invariant.table (omega arith) (omega arith) c.product-gx.ensures

pub loop-x-init : goal.loop-x-init
loop-x-init c = between_start c.requires.table c.requires.column_inside c.requires.g_lt_n

pub product-gx-requires : goal.product-gx-requires
product-gx-requires c = table_place c.loop-x.invariant.table (omega arith) (omega arith)

pub overflow_mul-xh : goal.overflow_mul-xh
overflow_mul-xh c = omega (arith, c.loop-x.invariant.column.below)

pub overflow_add-xh : goal.overflow_add-xh
overflow_add-xh c = omega (arith, c.loop-x.invariant.column.below, c.loop-x.invariant.table.small)

pub bounds-columns-j : goal.bounds-columns-j
bounds-columns-j c = omega (arith, c.loop-x.invariant.column.below, c.loop-x.invariant.table.small)

pub overflow_cast-xh : goal.overflow_cast-xh
overflow_cast-xh c =
    let here = c.loop-x in
    omega (arith, here.invariant.column.inside here.x c.loop-x-test.true, here.invariant.table.small)

pub overflow_mul-left : goal.overflow_mul-left
overflow_mul-left c = omega (arith, c.loop-x.invariant.column.below)

pub overflow_add-left : goal.overflow_add-left
overflow_add-left c =
    let inv = c.loop-x.invariant in
    omega (arith, product_inside c, inv.column.below, inv.table.small)

pub bounds-columns-j-in-loop-x : goal.bounds-columns-j-in-loop-x
bounds-columns-j-in-loop-x c =
    let inv = c.loop-x.invariant in
    omega (arith, product_inside c, inv.column.below, inv.table.small)

pub overflow_cast-left : goal.overflow_cast-left
overflow_cast-left c =
    let inv = c.loop-x.invariant in
    omega (arith, inv.column.inside c.product-gx.result (product_inside_2 c), inv.table.small)

pub product-right-requires : goal.product-right-requires
product-right-requires c =
    let here = c.loop-x in
    table_place here.invariant.table here.invariant.inside (here.invariant.column.inside here.x c.loop-x-test.true)

pub loop-x-preserved : goal.loop-x-preserved
loop-x-preserved c =
    between_next c.loop-x.invariant c.product-gx.ensures c.product-right.ensures
    (elim c.if-left-right.branch [ then-left-right w ↦ inl w.same-is | else-left-right w ↦ inr (w.if-left-right.false, w.same-is) ])

pub returns : goal.returns
returns c = between_all _ c.loop-x.invariant c.loop-x-test.false
