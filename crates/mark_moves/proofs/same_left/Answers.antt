-- `mark_moves::same_left` meets its contract: each way through the tests. Assumes nothing.
use mathlib.Core.Path.{sym, ◌∙◌}
use Rattle.finite.proofs.Tells.{told_yes, told_no}
use Rattle.rule_table.proofs.Facts.{table_place}
use Rattle.mark_moves.proofs.Agreeing.{left_of}
use Rattle.mark_moves.proofs.same_left.Goals as goal

pub product-forth-requires : goal.product-forth-requires
product-forth-requires c =
    table_place c.requires.table c.requires.idempotent.0.inside c.requires.idempotent.1

pub returns-then-forth-e : goal.returns-then-forth-e
returns-then-forth-e c = told_no (λ k. c.if-forth-e.true (c.product-forth.ensures ∙ k.back))

pub product-back-requires : goal.product-back-requires
product-back-requires c =
    table_place c.requires.table c.requires.idempotent.1 c.requires.idempotent.0.inside

pub returns-then-back-f : goal.returns-then-back-f
returns-then-back-f c = told_no (λ k. c.if-back-f.true (c.product-back.ensures ∙ k.forth))

pub returns : goal.returns
returns c =
    told_yes
    (left_of c.requires.lawful c.requires.idempotent.0 c.requires.idempotent.1 (sym c.product-forth.ensures ∙ c.if-forth-e.false)
    (sym c.product-back.ensures ∙ c.if-back-f.false))
