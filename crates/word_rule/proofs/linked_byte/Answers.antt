-- Two classes are linked or not. Assumes nothing.
use Rattle.word_rule.proofs.Marks.{mark_unlinked, mark_linked}
use mathlib.Core.Bool.{not}
use mathlib.Core.Path.{ap}
use Rattle.word_rule.proofs.linked_byte.Goals as goal

pub returns-then-not-linked : goal.returns-then-not-linked
returns-then-not-linked c = mark_unlinked c.laid_linked-linked.result c.laid_linked-linked.ensures (ap not c.if-not-linked.true)

pub returns : goal.returns
returns c = mark_linked c.laid_linked-linked.result c.laid_linked-linked.ensures (ap not c.if-not-linked.false)
