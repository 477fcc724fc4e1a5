-- `formula_pushes::copy_of` meets its contract: the file stands at the front of spare. Assumes nothing.
use native.Mathlib.Omega.{arith}
use Rattle.formula_pushes.proofs.Copying.{copied_read}
use Rattle.formula_pushes.proofs.copy_of.Goals as goal

pub returns : goal.returns
returns c =
    copied_read c.args.spare.now 0 c.rule_in.ensures.file c.put.ensures (omega (arith, c.requires.rule_size_in_bounds_2))
