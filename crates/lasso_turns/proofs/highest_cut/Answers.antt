-- The first cut that shows a mark is found, and from there on the highest mark. Assumes nothing.
use Rattle.lasso_turns.proofs.highest_cut.Goals as goal

pub highest_from-requires : goal.highest_from-requires
highest_from-requires c = record {
  table = c.requires.table;
  lawful = c.requires.lawful;
  cut_values = c.requires.cut_values;
  s_lt_n = c.requires.s_lt_n;
  marks_up_to = c.requires.marks_up_to;
  unmarked_before = c.first_marked-first.ensures;
}
