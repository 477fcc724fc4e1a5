-- `mark_moves::start_agrees` meets its contract: each way through the tests. Assumes nothing.
use Prim.Native.Nat.{◌<◌}
use native.Mathlib.Omega.{arith}
use Rattle.rule_table.proofs.Facts.{product_below}
use Rattle.mark_moves.proofs.Agreeing.{answer_yes, answer_no, start_free, start_same, move_inside, start_differs}
use Rattle.mark_moves.proofs.start_agrees.Goals as goal

-- s·g and f are elements
below : (c : goal.After-shared_slice_known-3-1) → (c.product-t.result < c.args.n) × (c.args.f < c.args.n)
below c =
    let w = c.requires.move_to in
    (product_below c.requires.table c.requires.s_lt_n w.by_inside c.product-t.ensures, move_inside c.requires.move_needs.lawful w)

-- s·g and f are elements
below-2 : (c : goal.After-shared_slice_known-4-1-unread) → (c.product-t.result < c.args.n) × (c.args.f < c.args.n)
below-2 c =
    let w = c.requires.move_to in
    (product_below c.requires.table c.requires.s_lt_n w.by_inside c.product-t.ensures, move_inside c.requires.move_needs.lawful w)

pub returns-then-kept-s : goal.returns-then-kept-s
returns-then-kept-s c = answer_yes (start_free c.product-kept.ensures c.if-kept-s.true)

pub overflow_mul-t : goal.overflow_mul-t
overflow_mul-t c = omega (arith, (below c).0)

pub overflow_add-t : goal.overflow_add-t
overflow_add-t c = omega (arith, (below c).0, (below c).1)

pub bounds-scratch-t : goal.bounds-scratch-t
bounds-scratch-t c = omega (arith, (below-2 c).0, (below-2 c).1)

pub returns-then-scratch-s : goal.returns-then-scratch-s
returns-then-scratch-s c =
    answer_no
    (start_differs c.requires.move_needs.lawful c.requires.move_to c.args.scratch.now c.requires.s_lt_n c.product-kept.ensures c.if-kept-s.false
    c.product-t.ensures c.if-scratch-s.true)

pub returns : goal.returns
returns c =
    answer_yes (start_same c.args.scratch.now c.product-t.ensures c.if-scratch-s.false)
