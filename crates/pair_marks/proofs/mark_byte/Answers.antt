-- `pair_marks::mark_byte` meets its contract: the places are linked or not. Assumes nothing.
use Rattle.pair_marks.proofs.Ways.{mark_unlinked, mark_linked}
use mathlib.Core.Bool.{not}
use mathlib.Core.Path.{ap}
use Rattle.pair_marks.proofs.mark_byte.Goals as goal

pub returns-then-not-laid_linked : goal.returns-then-not-laid_linked
returns-then-not-laid_linked c = mark_unlinked c.laid_linked.result c.laid_linked.ensures (ap not c.if-not-laid_linked.true)

pub returns : goal.returns
returns c = mark_linked c.laid_linked.result c.laid_linked.ensures (ap not c.if-not-laid_linked.false) c.pair_grade.ensures
