-- `formula_pushes::copy_into` meets its contract: the file goes by way of spare, and the other slots are kept. Assumes nothing.
use native.Mathlib.Omega.{arith}
use Rattle.formula_pushes.proofs.Copying.{copied_read, copied_kept, copied_on}
use Rattle.formula_pushes.proofs.copy_into.Goals as goal

pub returns : goal.returns
returns c =
    let stack = c.args.stack.now in
    let slot = c.args.slot in record {
      copied = copied_on c.copy_of.ensures (copied_read stack slot c.rule_in.ensures.file c.put.ensures (omega (arith, c.requires.slot_bound, c.requires.stack_size_in_bounds)));
      kept = copied_kept stack slot c.rule_in.ensures.file c.put.ensures (omega (arith, c.requires.slot_bound, c.requires.stack_size_in_bounds)) c.rule_in.ensures.short;
    }
