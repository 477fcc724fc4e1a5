-- `automaton_file::read_automaton` meets its contract: a short scratch, a section, what follows the sections, in this order; and every
-- refusal but the first leaves zeros. Assumes nothing.
use Rattle.std.proofs.Common.{◌∙◌}
use Rattle.automaton_file.proofs.Promise.{short_scratch, layout_promise, content_promise, automaton_promise, zeros_again, blank_room}
use Rattle.automaton_file.proofs.read_automaton.Goals as goal

pub returns-then-scratch-lt-SCRATCH_SIZE : goal.returns-then-scratch-lt-SCRATCH_SIZE
returns-then-scratch-lt-SCRATCH_SIZE c = short_scratch _ _ _ c.if-scratch-lt-SCRATCH_SIZE.true

pub returns-in-Err : goal.returns-in-Err
returns-in-Err c =
    layout_promise c.args.input c.args.bytes.now c.args.scratch.now c.if-scratch-lt-SCRATCH_SIZE.false
    (zeros_again c.args.scratch.now c.zero_part.ensures.outside.same_length c.zero.ensures) c.in-Err.ensures c.in_input.ensures

pub content_fault-requires : goal.content_fault-requires
content_fault-requires c = record {
  layout_passed = c.in-Ok.ensures;
  blank_room = blank_room c.if-scratch-lt-SCRATCH_SIZE.false c.zero_part.ensures;
}

pub returns-in-Ok-content_fault : goal.returns-in-Ok-content_fault
returns-in-Ok-content_fault c =
    automaton_promise c.args.input c.args.bytes.now c.args.scratch.now c.if-scratch-lt-SCRATCH_SIZE.false c.in-Ok.ensures
    c.zero_part.ensures.outside.same_length c.in-Ok-content_fault.ensures.refusal c.in-Ok-content_fault.ensures.laid

pub returns-in-Err-content_fault : goal.returns-in-Err-content_fault
returns-in-Err-content_fault c =
    content_promise c.args.input c.args.bytes.now c.args.scratch.now c.if-scratch-lt-SCRATCH_SIZE.false c.in-Ok.ensures
    (zeros_again c.args.scratch.now (c.in-Err-content_fault.ensures.laid ∙ c.zero_part.ensures.outside.same_length) c.zero-in-Err-content_fault.ensures)
    c.in-Err-content_fault.ensures.refusal c.in_input-in-Err-content_fault.ensures
