-- `formula_pushes::set_into` meets its contract: the rule is the reduction already, and the other slots are kept. Assumes nothing.
use native.Mathlib.Omega.{arith}
use Rattle.formula_pushes.proofs.Pushed.{set_pushed}
use Rattle.formula_pushes.proofs.set_into.Goals as goal

pub returns : goal.returns
returns c =
    let whole = set_pushed c.requires.rule_needs c.args.stack.now c.args.slot (omega (arith, c.requires.slot_bound, c.requires.stack_size_in_bounds)) c.stack-1.given.0 c.requires.known_letters c.first_letter.result c.first_letter.ensures in record { made = whole.0; kept = whole.1 }
