-- `example_lists::store_mark` meets its contract: each way through the tests is one case of the definition. Assumes nothing.
use Rattle.example_lists.proofs.Listing.{listed_unmarked, unmarked_odd, marked_all}
use Rattle.example_lists.proofs.store_mark.Goals as goal

pub returns-then-s-e : goal.returns-then-s-e
returns-then-s-e c = listed_unmarked _ _ c.if-s-e.true c.requires

pub returns-then-e-ne0 : goal.returns-then-e-ne0
returns-then-e-ne0 c = unmarked_odd _ _ c.if-e-ne0.true c.requires

pub returns : goal.returns
returns c =
    marked_all _ _ c.if-s-e.false c.if-e-ne0.false c.store-next.ensures c.store-last.ensures
    c.store.ensures
