-- `formula_pushes::constant_into` meets its contract: the rule is the reduction already, and the other slots are kept. Assumes nothing.
use native.Mathlib.Omega.{arith}
use Rattle.formula_pushes.proofs.Pushed.{constant_pushed}
use Rattle.formula_pushes.proofs.constant_into.Goals as goal

pub returns : goal.returns
returns c =
    let whole = constant_pushed c.requires.rule_needs c.args.stack.now c.args.slot (omega (arith, c.requires.slot_bound, c.requires.stack_size_in_bounds)) c.stack-1.given.0 c.constant.result c.constant.ensures in record { made = whole.0; kept = whole.1 }
