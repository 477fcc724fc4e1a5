-- The pair and the rows are the same or not. Assumes nothing.
use borrow.Author.Tests.{ne_eqb}
use Rattle.until_search.proofs.Finding.{other_pair, with_pair}
use Rattle.until_search.proofs.same_class.Goals as goal

pub returns-then-scratch-j : goal.returns-then-scratch-j
returns-then-scratch-j c = with_pair c.if-scratch-j.true c.same_rows.ensures

pub returns-else-scratch-j : goal.returns-else-scratch-j
returns-else-scratch-j c = rw (ne_eqb _ _ c.if-scratch-j.false) (other_pair c.if-scratch-j.false)
