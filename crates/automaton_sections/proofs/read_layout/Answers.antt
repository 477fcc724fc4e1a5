-- `automaton_sections::read_layout` meets its contract: each section that passes hands the rest of the file on, and the first that
-- refuses decides. Assumes nothing.
use Rattle.std.proofs.Common.{arith, refl}
use Rattle.answer.proofs.PassedOn.{passed_on}
use Rattle.sections.proofs.HandedOn.{handed_refused}
use Rattle.automaton_sections.specs.Sections.{LayoutAnswer}
use Rattle.automaton_sections.proofs.LayoutRead.{whole, states_long, after_states_read, letters_long, after_letters_read, layout_read}
use Rattle.automaton_sections.proofs.read_layout.Goals as goal

pub returns-in_err-m : goal.returns-in_err-m
returns-in_err-m c =
    passed_on (LayoutAnswer c.args.bytes.now) c.from_residual.result c.from_residual.ensures.1
    (handed_refused (whole c.args.bytes.now) _ c.in_err-m.ensures refl)

pub slice_bounds-rest-count : goal.slice_bounds-rest-count
slice_bounds-rest-count c = states_long c.in_ok-m.ensures

pub slice_bounds-rest-start : goal.slice_bounds-rest-start
slice_bounds-rest-start c = omega (arith, states_long c.in_ok-m.ensures)

pub returns-in_err-k : goal.returns-in_err-k
returns-in_err-k c =
    passed_on (LayoutAnswer c.args.bytes.now) c.from_residual-in_err-k.result c.from_residual-in_err-k.ensures.1
    (handed_refused (after_states_read c.in_ok-m.ensures) _ c.in_err-k.ensures refl)

pub slice_bounds-last-count : goal.slice_bounds-last-count
slice_bounds-last-count c = letters_long c.in_ok-m.ensures c.in_ok-k.ensures

pub slice_bounds-last-start : goal.slice_bounds-last-start
slice_bounds-last-start c = omega (arith, letters_long c.in_ok-m.ensures c.in_ok-k.ensures)

pub returns-in_err-c : goal.returns-in_err-c
returns-in_err-c c =
    passed_on (LayoutAnswer c.args.bytes.now) c.from_residual-in_err-c.result c.from_residual-in_err-c.ensures.1
    (handed_refused (after_letters_read c.in_ok-m.ensures c.in_ok-k.ensures) _ c.in_err-c.ensures refl)

-- all three sections pass
pub returns : goal.returns
returns c = layout_read c.in_ok-m.ensures c.in_ok-k.ensures c.in_ok-c.ensures
