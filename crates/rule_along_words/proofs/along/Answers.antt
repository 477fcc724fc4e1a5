-- The loop holds that (y·p)·h is y·s for every y that was passed, where the flag stands. The measure is the number of elements left. Assumes nothing.
use Prim.Native.Nat.{◌<◌}
use mathlib.Core.Logic.{inl, inr}
use native.Mathlib.Omega.{arith}
use Rattle.rule_table.proofs.Facts.{table_place, product_below}
use Rattle.rule_along_words.proofs.Passed.{along_start, along_next, along_all}
use Rattle.rule_along_words.proofs.along.Goals as goal
use Rattle.rule_along_words.proofs.along.Goals.{then-left-right, else-left-right}

-- a product is an element
product_inside : (c : goal.After-product-xp) → c.product-xp.result < c.args.n
product_inside c = product_below c.loop-x.invariant.table (omega arith) (omega arith) c.product-xp.ensures

-- a product is an element
product_inside_2 : (c : goal.After-way_told-1) → c.product-xp.result < c.args.n
product_inside_2 c = product_below c.loop-x.invariant.table (omega arith) (omega arith) c.product-xp.ensures

-- a product is an element
product_inside_3 : (c : goal.After-left-1) → c.product-xp.result < c.args.n
product_inside_3 c = product_below c.loop-x.invariant.table (omega arith) (omega arith) c.product-xp.ensures

pub loop-x-init : goal.loop-x-init
loop-x-init c = along_start c.requires.table c.requires.column_inside c.requires.p_lt_n

pub product-xp-requires : goal.product-xp-requires
product-xp-requires c = table_place c.loop-x.invariant.table (omega arith) (omega arith)

pub overflow_mul-left : goal.overflow_mul-left
overflow_mul-left c = omega (arith, c.loop-x.invariant.column.below)

pub overflow_add-left : goal.overflow_add-left
overflow_add-left c =
    let inv = c.loop-x.invariant in
    omega (arith, product_inside c, inv.column.below, inv.table.small)

pub bounds-columns-j : goal.bounds-columns-j
bounds-columns-j c =
    let inv = c.loop-x.invariant in
    omega (arith, product_inside_2 c, inv.column.below, inv.table.small)

pub overflow_cast-left : goal.overflow_cast-left
overflow_cast-left c =
    let inv = c.loop-x.invariant in
    omega (arith, inv.column.inside c.product-xp.result (product_inside_3 c), inv.table.small)

pub product-right-requires : goal.product-right-requires
product-right-requires c = table_place c.loop-x.invariant.table (omega arith) (omega arith)

pub loop-x-preserved : goal.loop-x-preserved
loop-x-preserved c =
    along_next c.loop-x.invariant c.product-xp.ensures c.product-right.ensures
    (elim c.if-left-right.branch [ then-left-right w ↦ inl w.same-is | else-left-right w ↦ inr (w.if-left-right.false, w.same-is) ])

pub returns : goal.returns
returns c = along_all _ c.loop-x.invariant c.loop-x-test.false
