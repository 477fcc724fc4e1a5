-- `mark_raising::raise_start` meets its contract: the mark there is no lower, or is raised. Assumes nothing.
use Prim.Native.Nat.{◌<◌}
use native.Mathlib.Omega.{arith}
use Rattle.rule_table.proofs.Facts.{product_below}
use Rattle.mark_moves.proofs.Agreeing.{move_inside}
use Rattle.mark_raising.proofs.Raising.{start_not, start_raised}
use Rattle.mark_raising.proofs.raise_start.Goals as goal

-- s·g and f are elements
below : (c : goal.After-slice_known-2-1) → (c.product-t.result < c.args.n) × (c.args.f < c.args.n)
below c =
    let w = c.requires.move_to.0 in
    (product_below c.requires.table c.requires.move_to.1 w.by_inside c.product-t.ensures, move_inside c.requires.lawful w)

-- s·g and f are elements
below-2 : (c : goal.After-slice_known-3-1-unread) → (c.product-t.result < c.args.n) × (c.args.f < c.args.n)
below-2 c =
    let w = c.requires.move_to.0 in
    (product_below c.requires.table c.requires.move_to.1 w.by_inside c.product-t.ensures, move_inside c.requires.lawful w)

-- s·g and f are elements
below-3 : (c : goal.Else-here-there) → (c.product-t.result < c.args.n) × (c.args.f < c.args.n)
below-3 c =
    let w = c.requires.move_to.0 in
    (product_below c.requires.table c.requires.move_to.1 w.by_inside c.product-t.ensures, move_inside c.requires.lawful w)

pub overflow_mul-there : goal.overflow_mul-there
overflow_mul-there c = omega (arith, (below c).0)

pub overflow_add-there : goal.overflow_add-there
overflow_add-there c = omega (arith, (below c).0, (below c).1)

pub overflow_add-there-2 : goal.overflow_add-there-2
overflow_add-there-2 c = omega (arith, (below c).0, (below c).1)

pub bounds-scratch-t : goal.bounds-scratch-t
bounds-scratch-t c =
    omega (arith, (below-2 c).0, (below-2 c).1, c.requires.raised.so_far.room)

pub returns-then-here-there : goal.returns-then-here-there
returns-then-here-there c =
    start_not c.requires.lawful c.requires.table.small c.requires.move_to.0 c.requires.move_to.1 c.product-t.ensures c.requires.raised c.if-here-there.true

pub overflow_mul-scratch : goal.overflow_mul-scratch
overflow_mul-scratch c = omega (arith, (below-3 c).0)

pub overflow_add-scratch : goal.overflow_add-scratch
overflow_add-scratch c = omega (arith, (below-3 c).0, (below-3 c).1)

pub overflow_add-scratch-2 : goal.overflow_add-scratch-2
overflow_add-scratch-2 c = omega (arith, (below-3 c).0, (below-3 c).1)

pub bounds-scratch-t-2 : goal.bounds-scratch-t-2
bounds-scratch-t-2 c =
    omega (arith, (below-3 c).0, (below-3 c).1, c.requires.raised.so_far.room)

pub returns : goal.returns
returns c =
    start_raised c.requires.lawful c.requires.table.small c.requires.move_to.0 c.requires.move_to.1 c.product-t.ensures c.requires.raised (below-3 c).1 c.if-here-there.false
