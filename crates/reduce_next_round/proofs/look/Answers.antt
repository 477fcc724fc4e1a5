-- `reduce_next_round::look` meets its contract: the new blocks are worked out and compared. Assumes nothing.
use Rattle.reduce_next_round.proofs.Looking.{round_seen}
use Rattle.reduce_next_round.proofs.look.Goals as goal

pub returns : goal.returns
returns c =
    round_seen c.requires.table.products c.requires.table.images c.requires.table.small c.next_blocks.ensures c.changes.ensures
