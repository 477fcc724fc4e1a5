-- `rule_automaton::write_successor` meets its contract: a t that is led to is one store. Assumes nothing.
use native.Mathlib.Omega.{arith}
use Rattle.rule_automaton.proofs.Successors.{good_byte, successor_in, successor_out}
use Rattle.rule_automaton.proofs.write_successor.Goals as goal

pub overflow_cast-out : goal.overflow_cast-out
overflow_cast-out c = omega (arith, good_byte c.requires.needs)

pub returns-then-leads : goal.returns-then-leads
returns-then-leads c = successor_in _ _ _ _ _ _ _ _ _ c.leads.ensures c.if-leads.true c.requires.room

pub returns : goal.returns
returns c = successor_out _ _ _ _ _ _ _ _ _ c.leads.ensures c.if-leads.false
