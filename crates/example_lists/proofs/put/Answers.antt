-- `example_lists::put` meets its contract: each way through the tests is one case of the definition. Assumes nothing.
use mathlib.Core.Path.{refl, sym, ◌∙◌}
use borrow.Author.Tests.{eqb-true, eqb-false}
use Rattle.example_lists.proofs.Listing.{put_empty, put_named, put_byte, put_repeated}
use Rattle.example_lists.proofs.put.Goals as goal

pub returns-then-is_empty : goal.returns-then-is_empty
returns-then-is_empty c = put_empty _ (eqb-true _ 0 (sym c.is_empty.ensures ∙ c.if-is_empty.true)) c.requires

pub returns-then-name-gt57 : goal.returns-then-name-gt57
returns-then-name-gt57 c =
    put_named _ (eqb-false _ 0 (sym c.is_empty.ensures ∙ c.if-is_empty.false)) refl c.if-name-gt57.true c.entries.ensures

pub returns-then-is_empty-2 : goal.returns-then-is_empty-2
returns-then-is_empty-2 c =
    put_byte _
    (eqb-false _ 0 (sym c.is_empty.ensures ∙ c.if-is_empty.false))
    refl
    c.if-name-gt57.false
    c.part-byte.ensures
    (eqb-true _ 0 (sym c.is_empty-2.ensures ∙ c.if-is_empty-2.true))
    c.decimal.ensures
    c.store.ensures

pub returns : goal.returns
returns c =
    put_repeated _
    (eqb-false _ 0 (sym c.is_empty.ensures ∙ c.if-is_empty.false))
    refl
    c.if-name-gt57.false
    c.part-byte.ensures
    (eqb-false _ 0 (sym c.is_empty-2.ensures ∙ c.if-is_empty-2.false))
    c.decimal-2.ensures
    c.repeats.ensures
    c.entries-2.ensures
