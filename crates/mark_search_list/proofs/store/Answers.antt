use borrow.Author.Rules.{rules}
use lib.ListN.{length-set}
use Rattle.mark_search_list.proofs.Storing.{stored_entry}
use Rattle.mark_search_list.proofs.store.Goals as goal

-- src/lib.rt:22:5
pub bounds-scratch-count-2 : goal.bounds-scratch-count-2
bounds-scratch-count-2 c = simp length-set (search rules)

-- src/lib.rt:23:5
pub bounds-scratch-count-3 : goal.bounds-scratch-count-3
bounds-scratch-count-3 c = simp length-set (search rules)

-- src/lib.rt:24:5
pub bounds-scratch-count-4 : goal.bounds-scratch-count-4
bounds-scratch-count-4 c = simp length-set (search rules)

-- src/lib.rt:25:5
pub bounds-scratch-count-5 : goal.bounds-scratch-count-5
bounds-scratch-count-5 c = simp length-set (search rules)

-- src/lib.rt:17:1
pub returns : goal.returns
returns c = stored_entry _ _ _ _ _ _ c.requires
