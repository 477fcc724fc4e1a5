-- `board_pass::file_of` meets its contract: the file at the front of the name's place. Assumes nothing.
use mathlib.Core.Path.{◌∙◌}
use Rattle.board_promises.proofs.Places.{slot_part}
use Rattle.board_pass.proofs.file_of.Goals as goal

pub returns : goal.returns
returns c =
    let a = c.args in
    c.file_part.ensures.result_value ∙ slot_part a.files.now a.i
