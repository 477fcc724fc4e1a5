-- `board_answers::lowest_with` meets its contract: the leaver's grade is passed over. Assumes nothing.
use mathlib.Core.Path.{refl}
use Rattle.board_answers.proofs.lowest_with.Goals as goal

pub returns-then-i-leaver : goal.returns-then-i-leaver
returns-then-i-leaver c = record { leaving = λ e. refl; staying = λ other. absurd (other c.if-i-leaver.true) }

pub returns : goal.returns
returns c = record { leaving = λ e. absurd (c.if-i-leaver.false e); staying = λ other. c.lesser.ensures }
