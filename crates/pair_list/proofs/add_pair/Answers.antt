-- A pair with a number is left alone. For another there is a place, or the list is full; the five stores are those of a new entry.
-- Assumes nothing.
use Rattle.pair_list.proofs.Bytes.{add_there, add_full, add_new}
use Rattle.pair_list.proofs.add_pair.Goals as goal

pub returns-then-scratch-s-gt0 : goal.returns-then-scratch-s-gt0
returns-then-scratch-s-gt0 c = add_there c.if-scratch-s-gt0.true

pub returns-then-count-ge64 : goal.returns-then-count-ge64
returns-then-count-ge64 c = add_full c.requires c.if-scratch-s-gt0.false c.if-count-ge64.true

pub returns : goal.returns
returns c = add_new c.requires c.if-scratch-s-gt0.false c.if-count-ge64.false
