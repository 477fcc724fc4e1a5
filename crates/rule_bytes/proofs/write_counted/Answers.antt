-- `rule_bytes::write_counted` meets its contract: a store writes the count, and the copy goes on right after it. Assumes nothing.
use Rattle.rule_bytes.proofs.Counted.{counted_place, counted_written, counted_length}
use Rattle.rule_bytes.proofs.write_counted.Goals as goal

pub copy-requires : goal.copy-requires
copy-requires c = counted_place c.requires

pub shape_of-out : goal.shape_of-out
shape_of-out c =
    counted_length c.requires ((counted_written c.requires c.copy.ensures))

pub returns : goal.returns
returns c =
    counted_written c.requires c.copy.ensures
