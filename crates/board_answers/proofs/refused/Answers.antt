-- `board_answers::refused` meets its contract: the notice alone is another. Assumes nothing.
use mathlib.Core.Path.{refl}
use Rattle.board_answers.proofs.refused.Goals as goal

pub returns : goal.returns
returns c = refl
