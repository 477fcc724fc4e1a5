-- `rule_automaton::leads` meets its contract: the product is s, or is held against s times e. Assumes nothing.
use mathlib.Core.Logic.{inl}
use Rattle.rule_automaton.proofs.Successors.{leads_rest, leads_turned}
use Rattle.rule_automaton.proofs.leads.Goals as goal

pub join-read-requires : goal.join-read-requires
join-read-requires c = record {
  table = c.requires.table;
  good_number = (inl c.requires.element, c.requires.good);
}

pub returns-then-read-s : goal.returns-then-read-s
returns-then-read-s c = leads_rest _ _ _ _ _ _ _ c.join-read.ensures c.if-read-s.true

pub returns : goal.returns
returns c = leads_turned _ _ _ _ _ _ _ c.join-read.ensures c.if-read-s.false
