-- A marked split ends the visit; any other is expanded. Assumes nothing.
use native.Mathlib.Omega.{arith}
use mir.Facts.{Fits-8_64}
use Rattle.theory.specs.Rules.{level}
use Rattle.scratch.specs.Map.{marks_from}
use Rattle.mark_search_list.specs.Queue.{front_at, back_at}
use Rattle.mark_search_list.proofs.Growth.{queue_few}
use Rattle.mark_search_visit.proofs.Visiting.{visited_stop, visited_on}
use Rattle.mark_search_visit.proofs.visit.Goals as goal

pub overflow_add-x : goal.overflow_add-x
overflow_add-x c = omega (arith, c.requires.expand_needs.there, queue_few c.requires.expand_needs.queue)

pub bounds-scratch-from : goal.bounds-scratch-from
bounds-scratch-from c = omega (arith, c.requires.expand_needs.there, queue_few c.requires.expand_needs.queue, c.requires.expand_needs.queue.room)

pub overflow_cast-x : goal.overflow_cast-x
overflow_cast-x c = Fits-8_64 (c.type_inv.scratch _)

pub overflow_add-y : goal.overflow_add-y
overflow_add-y c = omega (arith, c.requires.expand_needs.there, queue_few c.requires.expand_needs.queue)

pub bounds-scratch-from-2 : goal.bounds-scratch-from-2
bounds-scratch-from-2 c = omega (arith, c.requires.expand_needs.there, queue_few c.requires.expand_needs.queue, c.requires.expand_needs.queue.room)

pub overflow_cast-y : goal.overflow_cast-y
overflow_cast-y c = Fits-8_64 (c.slice_known-3-1.given _)

pub split_marked-requires : goal.split_marked-requires
unfolding front_at back_at
split_marked-requires c = record {
  table = c.requires.table;
  s_lt_n = (c.requires.expand_needs.queue.start_inside, c.requires.expand_needs.has_front, c.requires.expand_needs.queue.back_inside _ c.requires.expand_needs.there);
  second_le_second_base = (c.requires.second_le_second_base, c.requires.expand_needs.queue.room);
}

pub returns-then-split_marked : goal.returns-then-split_marked
returns-then-split_marked c = visited_stop (level _ (marks_from _ _)) c.requires.expand_needs c.split_marked.ensures c.if-split_marked.true

pub expand-requires : goal.expand-requires
expand-requires c = record {
  table = c.requires.table;
  expand_needs = c.requires.expand_needs;
}

pub shape_of-scratch : goal.shape_of-scratch
shape_of-scratch c = c.expand.ensures.found.grown.kept.same_length

pub returns : goal.returns
returns c = visited_on (level _ (marks_from _ _)) c.requires.expand_needs c.split_marked.ensures c.if-split_marked.false c.expand.ensures
