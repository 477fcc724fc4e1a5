-- `automaton_file::repeated_fault` meets its contract: the transitions passed so far differ and are laid out in the table. Assumes nothing.
use native.Mathlib.Omega.{arith}
use Rattle.automaton_file.proofs.RepeatedOrder.{no_transitions, fresh_more}
use Rattle.automaton_file.proofs.Laid.{laid_start}
use Rattle.automaton_file.proofs.Places.{place_inside, in_table, seen_here, new_here, laid_here, repeated_here, none_repeated, laid_whole}
use Rattle.automaton_file.proofs.repeated_fault.Goals as goal

pub loop-i-init : goal.loop-i-init
loop-i-init c =
    let good = c.requires.transitions_needs.sections in
    (no_transitions _, laid_start _ good.states_small good.letters_small c.requires.blank_room, omega arith)

pub triple_index-index-requires : goal.triple_index-index-requires
triple_index-index-requires c = record {
  transitions_needs = c.requires.transitions_needs;
  i_lt_count = c.loop-i-test.true;
}

pub bounds-table-index : goal.bounds-table-index
bounds-table-index c =
    in_table c.requires.transitions_needs _ c.loop-i-test.true c.triple_index-index.ensures c.loop-i.invariant.1 c.requires.blank_room.room

pub overflow_mul-result : goal.overflow_mul-result
overflow_mul-result c =
    omega (arith, place_inside c.requires.transitions_needs _ c.loop-i-test.true)

pub overflow_add-result : goal.overflow_add-result
overflow_add-result c =
    omega (arith, place_inside c.requires.transitions_needs _ c.loop-i-test.true)

pub overflow_add-result-then-table-index-ne0 : goal.overflow_add-result-then-table-index-ne0
overflow_add-result-then-table-index-ne0 c =
    omega (arith, place_inside c.requires.transitions_needs _ c.loop-i-test.true)

pub shape_of-table-then-table-index-ne0 : goal.shape_of-table-then-table-index-ne0
shape_of-table-then-table-index-ne0 c = c.loop-i.invariant.1.same_length

pub returns-then-table-index-ne0 : goal.returns-then-table-index-ne0
returns-then-table-index-ne0 c = record {
  refusal = repeated_here c.requires.transitions_needs _ c.loop-i-test.true c.loop-i.invariant.0
      (seen_here c.requires.transitions_needs _ c.loop-i-test.true c.triple_index-index.ensures c.loop-i.invariant.1 c.if-table-index-ne0.true);
  laid = c.loop-i.invariant.1.same_length;
}

pub bounds-table-index-in-loop-i : goal.bounds-table-index-in-loop-i
bounds-table-index-in-loop-i c =
    in_table c.requires.transitions_needs _ c.loop-i-test.true c.triple_index-index.ensures c.loop-i.invariant.1 c.requires.blank_room.room

pub loop-i-preserved : goal.loop-i-preserved
loop-i-preserved c = (
  fresh_more c.loop-i.invariant.0 (new_here c.requires.transitions_needs _ c.loop-i-test.true c.triple_index-index.ensures c.loop-i.invariant.1 c.if-table-index-ne0.false),
  laid_here c.requires.transitions_needs _ c.loop-i-test.true c.triple_index-index.ensures c.loop-i.invariant.1 ((in_table c.requires.transitions_needs _ c.loop-i-test.true c.triple_index-index.ensures c.loop-i.invariant.1 c.requires.blank_room.room)),
  omega arith,
)

pub shape_of-table : goal.shape_of-table
shape_of-table c = c.loop-i.invariant.1.same_length

pub returns : goal.returns
returns c = record {
  refusal = none_repeated c.requires.transitions_needs c.loop-i-test.false c.loop-i.invariant.2 c.loop-i.invariant.0;
  laid = laid_whole c.requires.transitions_needs c.loop-i-test.false c.loop-i.invariant.2 c.loop-i.invariant.1;
}
