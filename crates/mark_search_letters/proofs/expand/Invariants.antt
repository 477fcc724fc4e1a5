-- The loop holds that the letters before the one at hand were handed over. Assumes nothing.
use Rattle.formats.specs.Table.{morphism_at}
use Rattle.mark_search_letters.specs.Steps.{Expanded}
use Rattle.mark_search_letters.proofs.expand.Given as goal

abbrev pub invariant-loop-a : goal.invariant-loop-a
invariant-loop-a l = Expanded (morphism_at l.rule l.n l.k) l.s l.initial.scratch l.count l.from l.a l.scratch l.total
