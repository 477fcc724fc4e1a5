-- An element with a number is left alone. For another there is room, since fewer than 64 elements are found, and the four
-- stores are those of a new entry. Assumes nothing.
use native.Mathlib.Omega.{arith}
use lib.ListN.{length-set}
use Rattle.rule_reach.proofs.Bytes.{add_found, add_small, add_stored}
use Rattle.rule_reach.proofs.add.Goals as goal

pub returns-then-queue-s-gt0 : goal.returns-then-queue-s-gt0
returns-then-queue-s-gt0 c = add_found c.if-queue-s-gt0.true

pub bounds-queue-count : goal.bounds-queue-count
bounds-queue-count c = omega (arith, add_small c.requires c.if-queue-s-gt0.false)

pub overflow_add-queue : goal.overflow_add-queue
overflow_add-queue c = omega (arith, add_small c.requires c.if-queue-s-gt0.false)

pub bounds-queue-count-2 : goal.bounds-queue-count-2
bounds-queue-count-2 c = simp length-set (omega (arith, add_small c.requires c.if-queue-s-gt0.false))

pub overflow_add-queue-2 : goal.overflow_add-queue-2
overflow_add-queue-2 c = omega (arith, add_small c.requires c.if-queue-s-gt0.false)

pub bounds-queue-count-3 : goal.bounds-queue-count-3
bounds-queue-count-3 c = simp length-set (omega (arith, add_small c.requires c.if-queue-s-gt0.false))

pub overflow_add-queue-3 : goal.overflow_add-queue-3
overflow_add-queue-3 c = omega (arith, add_small c.requires c.if-queue-s-gt0.false)

pub overflow_cast-queue-4 : goal.overflow_cast-queue-4
overflow_cast-queue-4 c = omega (arith, add_small c.requires c.if-queue-s-gt0.false)

pub bounds-queue-s-2 : goal.bounds-queue-s-2
bounds-queue-s-2 c = simp length-set (omega (arith, add_small c.requires c.if-queue-s-gt0.false))

pub overflow_add-result : goal.overflow_add-result
overflow_add-result c = omega (arith, add_small c.requires c.if-queue-s-gt0.false)

pub returns : goal.returns
returns c = add_stored c.requires c.if-queue-s-gt0.false
