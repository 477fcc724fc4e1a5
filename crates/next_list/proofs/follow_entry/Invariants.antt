-- The loop holds that the letters before the one at hand were followed. Assumes nothing.
use Rattle.formats.specs.Table.{morphism_at}
use Rattle.next_list.proofs.Loops.{Following}
use Rattle.next_list.proofs.follow_entry.Given as goal

abbrev pub invariant-loop-letter : goal.invariant-loop-letter
invariant-loop-letter l = Following (morphism_at l.rule l.n l.k) l.initial.scratch l.count l.from l.scratch l.total l.letter
