-- `run_automaton_paths::count_alike` keeps its count small. Assumes nothing.
use Rattle.std.proofs.Common.{◌≤◌}
use Rattle.run_automaton_paths.proofs.count_alike.Given as goal

abbrev pub invariant-loop-i : goal.invariant-loop-i
invariant-loop-i l = l.count ≤ l.i
