-- `formula_steps::reduce_into` meets its contract: the slot has the reduction, and the others are kept. Assumes nothing.
use native.Mathlib.Omega.{arith}
use Rattle.formula_steps.proofs.Reducing.{into_slot}
use Rattle.formula_steps.proofs.reduce_into.Goals as goal

pub returns : goal.returns
returns c =
    let whole = into_slot c.args.stack.now (omega (arith, c.requires.slot_bound, c.requires.stack_size_in_bounds)) c.requires.until_classes_size_in_bounds c.requires.scratch_size_in_bounds c.rule_in.ensures.file c.stack-1.given.0 c.reduce.result
    c.reduce.ensures in record { reduced = whole.0; kept = whole.1 }
