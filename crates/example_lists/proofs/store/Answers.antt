-- `example_lists::store` meets its contract: a store past the buffer's end would change nothing. Assumes nothing.
use Rattle.example_lists.proofs.Storing.{stored_past}
use Rattle.example_lists.proofs.store.Goals as goal

pub returns : goal.returns
returns c = stored_past _ c.if-at-out.false
