-- `formula_slots::rule_in` meets its contract: the file at the front of the slot. Assumes nothing.
use mathlib.Core.Path.{◌∙◌}
use Rattle.board_promises.proofs.Places.{slot_part}
use Rattle.formula_slots.proofs.Places.{read_short}
use Rattle.formula_slots.proofs.rule_in.Goals as goal

pub returns : goal.returns
returns c =
    let a = c.args in
    let e = c.file_part.ensures.result_value ∙ slot_part a.stack.now a.slot in record {
      file = e;
      short = read_short a.stack.now a.slot e;
    }
