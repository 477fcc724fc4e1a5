-- `formula_call::copy_out` meets its contract. Assumes nothing.
use Rattle.formula_call.proofs.Answers.{copied_front}
use Rattle.formula_call.proofs.copy_out.Goals as goal

pub returns : goal.returns
returns c =
    copied_front c.args.stack.now c.rule_in-file.ensures.file c.put.ensures
