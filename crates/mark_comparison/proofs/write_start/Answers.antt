use Rattle.rule_check.proofs.Faults.{blank_queue}
use Rattle.mark_comparison.proofs.Comparing.{start_place, start_written}
use Rattle.mark_comparison.proofs.write_start.Goals as goal

pub reach-requires : goal.reach-requires
reach-requires c = record {
  table = c.requires.table;
  empty = blank_queue;
}

pub write_first_word-requires : goal.write_first_word-requires
write_first_word-requires c =
    start_place c.requires.table c.requires.start_needs c.reach.ensures blank_queue

pub returns : goal.returns
returns c =
    start_written c.requires.table c.requires.start_needs c.reach.ensures blank_queue c.write_first_word.ensures
