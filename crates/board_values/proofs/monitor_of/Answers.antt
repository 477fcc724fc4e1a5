-- `board_values::monitor_of` meets its contract: the two arrays have an entry for each name. Assumes nothing.
use borrow.Author.Rules.{rules}
use Rattle.board_promises.specs.Monitors.{Whole}
use Rattle.board_promises.proofs.Moved.{monitor_read}
use Rattle.board_values.proofs.monitor_of.Goals as goal

pub returns : goal.returns
returns c =
    let whole : Whole c.args.board = search rules in
    monitor_read whole c.requires
