-- `theorems::ready_theorem` meets its contract. Assumes nothing.
use Rattle.automaton_rule_call.proofs.TwoWays.{ready_theorem}
use Rattle.theorems.proofs.ready_theorem.Goals as goal

pub returns : goal.returns
returns c = ready_theorem
