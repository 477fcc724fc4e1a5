-- `rule_automaton::list_successors` meets its contract: each turn looks at one element more, and 64 comes last. Assumes nothing.
use Rattle.rule_automaton.proofs.Successors.{ListSoFar}
use Rattle.rule_automaton.proofs.list_successors.Given as goal

abbrev pub invariant-loop-t : goal.invariant-loop-t
invariant-loop-t l = ListSoFar l.rule l.n l.k l.s l.turned l.h l.initial.out l.out l.next l.t
