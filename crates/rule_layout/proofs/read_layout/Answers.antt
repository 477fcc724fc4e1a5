-- `rule_layout::read_layout` meets its contract: each section that passes hands the rest of the file on, and the first that refuses
-- decides. Assumes nothing.
use Rattle.std.proofs.Common.{arith, refl}
use Rattle.answer.proofs.PassedOn.{passed_on}
use Rattle.sections.proofs.HandedOn.{handed_refused}
use Rattle.rule_layout.specs.Answers.{LayoutAnswer}
use Rattle.rule_layout.proofs.LayoutRead.{whole, elements_long, after_elements_read, letters_long, after_letters_read, layout_read}
use Rattle.rule_layout.proofs.read_layout.Goals as goal

pub returns-in_err-n : goal.returns-in_err-n
returns-in_err-n c =
    passed_on (LayoutAnswer c.args.rule.now) c.from_residual.result c.from_residual.ensures.1
    (handed_refused (whole c.args.rule.now) _ c.in_err-n.ensures refl)

pub slice_bounds-rest-count : goal.slice_bounds-rest-count
slice_bounds-rest-count c = elements_long c.in_ok-n.ensures

pub slice_bounds-rest-start : goal.slice_bounds-rest-start
slice_bounds-rest-start c = omega (arith, elements_long c.in_ok-n.ensures)

pub returns-in_err-k : goal.returns-in_err-k
returns-in_err-k c =
    passed_on (LayoutAnswer c.args.rule.now) c.from_residual-in_err-k.result c.from_residual-in_err-k.ensures.1
    (handed_refused (after_elements_read c.in_ok-n.ensures) _ c.in_err-k.ensures refl)

pub slice_bounds-last-count : goal.slice_bounds-last-count
slice_bounds-last-count c = letters_long c.in_ok-n.ensures c.in_ok-k.ensures

pub slice_bounds-last-start : goal.slice_bounds-last-start
slice_bounds-last-start c = omega (arith, letters_long c.in_ok-n.ensures c.in_ok-k.ensures)

pub returns-in_err-c : goal.returns-in_err-c
returns-in_err-c c =
    passed_on (LayoutAnswer c.args.rule.now) c.from_residual-in_err-c.result c.from_residual-in_err-c.ensures.1
    (handed_refused (after_letters_read c.in_ok-n.ensures c.in_ok-k.ensures) _ c.in_err-c.ensures refl)

-- all three sections pass
pub returns : goal.returns
returns c = layout_read c.in_ok-n.ensures c.in_ok-k.ensures c.in_ok-c.ensures
