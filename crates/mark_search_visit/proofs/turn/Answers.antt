-- The two cases of the definition. Assumes nothing.
use mathlib.Core.Path.{sym, ◌∙◌}
use Rattle.formats.specs.Table.{morphism_at}
use Rattle.mark_search_visit.proofs.Values.{turned_element, turned_none}
use Rattle.mark_search_visit.proofs.turn.Goals as goal

pub returns-then-y-n : goal.returns-then-y-n
returns-then-y-n c = c.product.ensures ∙ sym (turned_element (morphism_at _ _ _) _ _ c.if-y-n.true)

pub returns : goal.returns
returns c = sym (turned_none (morphism_at _ _ _) _ _ c.if-y-n.false)
