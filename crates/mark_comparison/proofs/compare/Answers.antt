-- Where no cycle escapes the first marking is included; else the lasso is written. Scratch is cleared in both cases. Assumes nothing.
use Rattle.mark_comparison.proofs.Comparing.{compare_search, start_room, cycle_room, compared_within, compared_apart}
use Rattle.mark_comparison.proofs.compare.Goals as goal

pub highest_escape-requires : goal.highest_escape-requires
highest_escape-requires c = record {
  table = c.requires.table;
  escape_needs = compare_search c.requires.compare_needs;
}

pub write_start-u_letters-requires : goal.write_start-u_letters-requires
write_start-u_letters-requires c = record {
  table = c.requires.table;
  start_needs = start_room c.requires.compare_needs c.highest_escape.ensures c.in-Some.is c.requires.in_bounds.0;
}

pub write_cycle-v_letters-requires : goal.write_cycle-v_letters-requires
write_cycle-v_letters-requires c =
    cycle_room c.requires.compare_needs c.highest_escape.ensures c.in-Some.is c.requires.in_bounds.1

pub returns-in-None : goal.returns-in-None
returns-in-None c =
    compared_within c.requires.compare_needs c.highest_escape.ensures _ _ c.in-None.is c.zero.ensures

pub returns-in-Some : goal.returns-in-Some
returns-in-Some c =
    compared_apart c.requires.compare_needs c.highest_escape.ensures c.in-Some.is c.write_start-u_letters.ensures c.write_cycle-v_letters.ensures c.zero-in-Some.ensures
