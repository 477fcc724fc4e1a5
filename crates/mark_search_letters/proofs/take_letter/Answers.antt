use native.Mathlib.Omega.{arith}
use mir.Facts.{Fits-8_64}
use Rattle.formats.specs.Table.{morphism_at}
use Rattle.mark_search_list.specs.Queue.{front_at, back_at}
use Rattle.mark_search_list.proofs.Growth.{queue_few}
use Rattle.mark_search_letters.proofs.Values.{before_inside}
use Rattle.mark_search_letters.proofs.Taking.{taking_start, taking_add, taking_next, taking_less, taking_done}
use Rattle.mark_search_letters.proofs.take_letter.Goals as goal

pub overflow_add-x : goal.overflow_add-x
overflow_add-x c = omega (arith, c.requires.expand_needs.there, queue_few c.requires.expand_needs.queue)

pub bounds-scratch-from : goal.bounds-scratch-from
bounds-scratch-from c = omega (arith, c.requires.expand_needs.there, queue_few c.requires.expand_needs.queue, c.requires.expand_needs.queue.room)

pub overflow_cast-x : goal.overflow_cast-x
overflow_cast-x c = Fits-8_64 (c.type_inv.scratch _)

pub overflow_add-y : goal.overflow_add-y
overflow_add-y c = omega (arith, c.requires.expand_needs.there, queue_few c.requires.expand_needs.queue)

pub bounds-scratch-from-2 : goal.bounds-scratch-from-2
bounds-scratch-from-2 c = omega (arith, c.requires.expand_needs.there, queue_few c.requires.expand_needs.queue, c.requires.expand_needs.queue.room)

pub overflow_cast-y : goal.overflow_cast-y
overflow_cast-y c = Fits-8_64 (c.type_inv.scratch _)

pub back_with-back-requires : goal.back_with-back-requires
unfolding back_at
back_with-back-requires c = record {
  table = c.requires.table;
  a_lt_k = (c.requires.a_lt_k, c.requires.expand_needs.queue.back_inside _ c.requires.expand_needs.there);
}

pub overflow_mul-rest : goal.overflow_mul-rest
overflow_mul-rest c = omega (arith, c.requires.a_lt_k, c.requires.table.letters_small)

pub overflow_add-rest : goal.overflow_add-rest
unfolding front_at
overflow_add-rest c = omega (arith, c.requires.a_lt_k, c.requires.table.letters_small, c.requires.table.small, c.requires.expand_needs.has_front)

pub overflow_add-rest-2 : goal.overflow_add-rest-2
unfolding front_at
overflow_add-rest-2 c = omega (arith, c.requires.a_lt_k, c.requires.table.letters_small, c.requires.table.small, c.requires.expand_needs.has_front)

pub bounds-scratch-a : goal.bounds-scratch-a
unfolding front_at
bounds-scratch-a c = omega (arith, c.requires.a_lt_k, c.requires.table.letters_small, c.requires.table.small, c.requires.expand_needs.has_front, c.requires.expand_needs.queue.room)

pub overflow_cast-rest : goal.overflow_cast-rest
overflow_cast-rest c = Fits-8_64 (c.type_inv.scratch _)

pub loop-rest-init : goal.loop-rest-init
unfolding front_at
loop-rest-init c = taking_start (morphism_at _ _ _) c.requires.expand_needs c.requires.a_lt_k

pub add-total-requires : goal.add-total-requires
unfolding back_at
add-total-requires c = taking_add (morphism_at _ _ _) c.requires.expand_needs c.requires.a_lt_k c.loop-rest.invariant _ _ c.requires.table.letters_small (omega arith) c.back_with-back.ensures (omega (arith, before_inside _ _ _ c.requires.table c.requires.a_lt_k (c.requires.expand_needs.queue.back_inside _ c.requires.expand_needs.there) _ c.back_with-back.ensures))

pub overflow_mul-rest-in-loop-rest : goal.overflow_mul-rest-in-loop-rest
overflow_mul-rest-in-loop-rest c = omega (arith, c.requires.a_lt_k, c.requires.table.letters_small)

pub overflow_add-rest-in-loop-rest : goal.overflow_add-rest-in-loop-rest
overflow_add-rest-in-loop-rest c = omega (arith, c.requires.a_lt_k, c.requires.table.letters_small, c.requires.table.small, c.loop-rest.invariant.within)

pub overflow_add-rest-in-loop-rest-2 : goal.overflow_add-rest-in-loop-rest-2
overflow_add-rest-in-loop-rest-2 c = omega (arith, c.requires.a_lt_k, c.requires.table.letters_small, c.requires.table.small, c.loop-rest.invariant.within)

pub bounds-scratch-a-in-loop-rest : goal.bounds-scratch-a-in-loop-rest
bounds-scratch-a-in-loop-rest c = omega (arith, c.requires.a_lt_k, c.requires.table.letters_small, c.requires.table.small, c.loop-rest.invariant.within, c.add-total.ensures.grown.queue.room)

pub overflow_cast-rest-in-loop-rest : goal.overflow_cast-rest-in-loop-rest
overflow_cast-rest-in-loop-rest c = Fits-8_64 (c.type_inv.scratch _)

pub loop-rest-smaller : goal.loop-rest-smaller
loop-rest-smaller c = taking_less (morphism_at _ _ _) c.requires.expand_needs c.requires.a_lt_k c.loop-rest.invariant _ (omega arith) c.add-total.ensures

pub loop-rest-preserved : goal.loop-rest-preserved
unfolding back_at
loop-rest-preserved c = taking_next (morphism_at _ _ _) c.requires.expand_needs c.requires.a_lt_k c.loop-rest.invariant _ _ (omega arith) c.back_with-back.ensures c.add-total.ensures

pub shape_of-scratch : goal.shape_of-scratch
shape_of-scratch c = c.loop-rest.invariant.found.grown.kept.same_length

pub returns : goal.returns
returns c = taking_done (morphism_at _ _ _) c.requires.expand_needs c.requires.a_lt_k c.loop-rest.invariant c.loop-rest-test.false
