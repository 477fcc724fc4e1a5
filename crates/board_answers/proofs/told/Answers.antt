-- `board_answers::told` meets its contract, by the kinds of the library's answer. Assumes nothing.
use mathlib.Core.Path.{refl}
use Rattle.board_answers.proofs.Telling.{told_to, told_refused}
use Rattle.board_answers.proofs.told.Goals as goal

pub returns-in-To : goal.returns-in-To
returns-in-To c = told_to _ _ _ _ c.in-To.is (record { done = refl; moved = refl; lowest = c.lowest_with.ensures; foreign = refl })

pub returns-in-Refused : goal.returns-in-Refused
returns-in-Refused c = told_refused _ _ _ _ c.in-Refused.is c.told_refusal.ensures
