-- `reduce_round_blocks::still_together` meets its contract: the letters that were passed keep the elements together. Assumes nothing.
use native.Mathlib.Omega.{arith}
use borrow.Author.Tests.{not-true, not-false}
use Rattle.reduce_first_round.specs.Map.{InOneBlock}
use Rattle.reduce_first_round.proofs.Products.{still_not, still_start, still_next, still_parted, still_all}
use mathlib.Core.Bool.{not}
use mathlib.Core.Path.{ap}
use Rattle.reduce_round_blocks.proofs.still_together.Goals as goal

pub overflow_add-s : goal.overflow_add-s
overflow_add-s c = omega (arith, c.requires.table.small)

pub bounds-scratch-s : goal.bounds-scratch-s
bounds-scratch-s c = omega (arith, c.requires.table.small)

pub overflow_add-t : goal.overflow_add-t
overflow_add-t c = omega (arith, c.requires.table.small)

pub bounds-scratch-t : goal.bounds-scratch-t
bounds-scratch-t c = omega (arith, c.requires.table.small)

pub returns-then-scratch-s : goal.returns-then-scratch-s
unfolding InOneBlock
returns-then-scratch-s c = still_not c.if-scratch-s.true

pub loop-a-init : goal.loop-a-init
unfolding InOneBlock
loop-a-init c = still_start c.if-scratch-s.false

pub products_together-requires : goal.products_together-requires
products_together-requires c = record {
  table = c.requires.table;
  s_lt_n = (c.requires.s_lt_n.0, c.requires.s_lt_n.1, c.loop-a-test.true);
  scratch_size_in_bounds = c.requires.scratch_size_in_bounds;
}

pub returns-then-not-products_together : goal.returns-then-not-products_together
returns-then-not-products_together c = still_parted c.loop-a-test.true c.products_together.ensures (not-true _ (ap not c.if-not-products_together.true))

pub loop-a-preserved : goal.loop-a-preserved
loop-a-preserved c = still_next c.loop-a.invariant c.products_together.ensures (not-false _ (ap not c.if-not-products_together.false))

pub returns : goal.returns
returns c = still_all c.loop-a.invariant c.loop-a-test.false
