-- `board_answers::with_answer` meets its contract, by the kinds of the library's answer. Assumes nothing.
use mathlib.Core.Path.{refl}
use Rattle.board_answers.proofs.EntryTelling.{entry_to, entry_refused}
use Rattle.board_answers.proofs.with_answer.Goals as goal

pub returns-in-To : goal.returns-in-To
returns-in-To c = entry_to _ _ c.in-To.is refl

pub returns-in-Refused : goal.returns-in-Refused
returns-in-Refused c = entry_refused _ _ c.in-Refused.is c.refused.ensures
