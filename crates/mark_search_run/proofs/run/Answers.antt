-- The loop holds that the entries before the one at hand were tried; there are at most 4,225 entries. Assumes nothing.
use native.Mathlib.Omega.{arith}
use mir.Facts.{Fits-8_64}
use Rattle.mark_search_run.proofs.Searching.{at_few, searching_room, visit_place, searching_next, searched_ended, searched_none}
use Rattle.mark_search_run.proofs.run.Goals as goal

pub loop-at-init : goal.loop-at-init
loop-at-init c = c.requires.searching

pub overflow_add-x : goal.overflow_add-x
overflow_add-x c = omega (arith, at_few _ c.requires.run_needs c.loop-at.invariant)

pub bounds-scratch-at : goal.bounds-scratch-at
bounds-scratch-at c = omega (arith, at_few _ c.requires.run_needs c.loop-at.invariant, searching_room _ c.requires.run_needs c.loop-at.invariant)

pub overflow_cast-x : goal.overflow_cast-x
overflow_cast-x c = Fits-8_64 (c.type_inv.scratch _)

pub shape_of-scratch-then-x-n : goal.shape_of-scratch-then-x-n
shape_of-scratch-then-x-n c = c.loop-at.invariant.grown.kept.same_length

pub returns-then-x-n : goal.returns-then-x-n
returns-then-x-n c = searched_ended _ c.requires.run_needs c.loop-at.invariant c.loop-at-test.true c.if-x-n.true

pub visit-count-requires : goal.visit-count-requires
visit-count-requires c = record {
  table = c.requires.table;
  expand_needs = visit_place _ c.requires.run_needs c.loop-at.invariant c.loop-at-test.true c.if-x-n.false;
  second_le_second_base = c.requires.run_needs.second_in_base;
}

pub overflow_add-at : goal.overflow_add-at
overflow_add-at c = omega (arith, at_few _ c.requires.run_needs c.loop-at.invariant)

pub loop-at-smaller : goal.loop-at-smaller
loop-at-smaller c = omega (arith, at_few _ c.requires.run_needs (searching_next _ c.requires.run_needs c.loop-at.invariant c.loop-at-test.true c.if-x-n.false c.visit-count.ensures))

pub loop-at-preserved : goal.loop-at-preserved
loop-at-preserved c = searching_next _ c.requires.run_needs c.loop-at.invariant c.loop-at-test.true c.if-x-n.false c.visit-count.ensures

pub shape_of-scratch : goal.shape_of-scratch
shape_of-scratch c = c.loop-at.invariant.grown.kept.same_length

pub returns : goal.returns
returns c = searched_none _ c.requires.run_needs c.loop-at.invariant c.loop-at-test.false
