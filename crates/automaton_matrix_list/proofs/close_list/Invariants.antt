-- The loop holds that the matrices before the one at hand were multiplied; there are at most 64. Assumes nothing.
use Prim.Native.Nat.{◌-◌}
use Rattle.automaton_matrix_list.proofs.Closing.{Closing}
use Rattle.automaton_matrix_list.proofs.close_list.Given as goal

abbrev pub invariant-loop-from : goal.invariant-loop-from
invariant-loop-from l = Closing l.n l.k l.initial.scratch l.begun l.scratch l.count l.from

abbrev pub decreases-loop-from : goal.decreases-loop-from
decreases-loop-from l = 64 - l.from
