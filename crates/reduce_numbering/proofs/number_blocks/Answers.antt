-- `reduce_numbering::number_blocks` meets its contract: the worklist holds every element once, in the order of the first words. Assumes nothing.
use Rattle.reduce_numbering.proofs.Blocks.{blank_queue, blocks_numbered}
use Rattle.reduce_numbering.proofs.number_blocks.Goals as goal

pub reach-count-requires : goal.reach-count-requires
reach-count-requires c = record {
  table = c.requires.table;
  empty = blank_queue;
}

pub returns : goal.returns
returns c =
    blocks_numbered c.requires.table c.requires.lawful c.requires.all_reached c.reach-count.ensures c.number_elements.ensures
