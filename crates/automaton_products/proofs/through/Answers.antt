-- One lemma for each way through the tests. Assumes nothing.
use borrow.Author.Rules.{rules}
use Rattle.automaton_products.proofs.Entries.{through_none_left, through_none_right, through_both}
use Rattle.automaton_products.proofs.through.Goals as goal

pub returns-then-x-eq0 : goal.returns-then-x-eq0
returns-then-x-eq0 c = through_none_left _ _ c.if-x-eq0.true

pub returns-then-y-eq0 : goal.returns-then-y-eq0
returns-then-y-eq0 c = through_none_right _ _ c.if-y-eq0.true

pub returns : goal.returns
returns c = through_both _ _ c.if-x-eq0.false c.if-y-eq0.false (search rules)
