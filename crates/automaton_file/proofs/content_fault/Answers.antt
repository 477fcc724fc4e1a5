-- `automaton_file::content_fault` meets its contract: bytes that follow decide, else the transitions. Assumes nothing.
use mathlib.Core.Path.{refl}
use native.Mathlib.Omega.{arith}
use Rattle.automaton_file.proofs.Content.{m_small, count_small, end_in, transitions_place, trailing_automaton_bytes, transitions_decide}
use Rattle.automaton_file.proofs.content_fault.Goals as goal

pub overflow_add-at : goal.overflow_add-at
overflow_add-at c = omega (arith, m_small _ _ c.requires.layout_passed)

pub overflow_add-at-2 : goal.overflow_add-at-2
overflow_add-at-2 c = omega (arith, m_small _ _ c.requires.layout_passed)

pub overflow_mul-end : goal.overflow_mul-end
overflow_mul-end c = omega (arith, count_small _ _ c.requires.layout_passed)

pub overflow_add-end : goal.overflow_add-end
overflow_add-end c = omega (arith, count_small _ _ c.requires.layout_passed)

pub overflow_add-end-2 : goal.overflow_add-end-2
overflow_add-end-2 c = omega (arith, m_small _ _ c.requires.layout_passed, count_small _ _ c.requires.layout_passed)

pub rest_after-rest-requires : goal.rest_after-rest-requires
rest_after-rest-requires c = end_in _ _ c.requires.layout_passed

pub returns-then-rest-gt0 : goal.returns-then-rest-gt0
returns-then-rest-gt0 c = record {
  refusal = trailing_automaton_bytes _ _ c.requires.layout_passed c.rest_after-rest.ensures c.if-rest-gt0.true;
  laid = refl;
}

pub repeated_fault-requires : goal.repeated_fault-requires
repeated_fault-requires c = record {
  transitions_needs = transitions_place _ _ c.requires.layout_passed;
  blank_room = c.requires.blank_room;
}

pub returns : goal.returns
returns c = record {
  refusal = transitions_decide _ _ c.requires.layout_passed c.rest_after-rest.ensures c.if-rest-gt0.false c.repeated_fault.result c.repeated_fault.ensures.refusal;
  laid = c.repeated_fault.ensures.laid;
}
