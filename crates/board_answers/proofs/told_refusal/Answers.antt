-- `board_answers::told_refusal` meets its contract: 10 is of the step, and any other refusal is the name's. Assumes nothing.
use mathlib.Core.Path.{refl, sym, ◌∙◌}
use Rattle.board_answers.proofs.Telling.{ten_told, other_told}
use Rattle.board_answers.proofs.told_refusal.Goals as goal

pub returns-then-number-eq10 : goal.returns-then-number-eq10
returns-then-number-eq10 c =
    ten_told (sym c.number.ensures ∙ c.if-number-eq10.true) (record { done = refl; moved = refl; lowest = refl; foreign = c.lesser.ensures })

pub returns : goal.returns
returns c =
    other_told (λ e. c.if-number-eq10.false (c.number.ensures ∙ e)) c.refused.ensures
