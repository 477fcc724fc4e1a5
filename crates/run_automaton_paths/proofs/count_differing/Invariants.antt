-- `run_automaton_paths::count_differing` keeps its count small. Assumes nothing.
use Rattle.std.proofs.Common.{◌≤◌}
use Rattle.run_automaton_paths.proofs.count_differing.Given as goal

abbrev pub invariant-loop-place : goal.invariant-loop-place
invariant-loop-place l = l.count ≤ l.place
