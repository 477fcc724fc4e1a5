use Rattle.formats.specs.Table.{morphism_at}
use Rattle.mark_search_letters.proofs.Taking.{Taking}
use Rattle.mark_search_letters.proofs.take_letter.Given as goal

abbrev pub invariant-loop-rest : goal.invariant-loop-rest
invariant-loop-rest l = Taking (morphism_at l.rule l.n l.k) l.s l.initial.scratch l.count l.from l.a l.scratch l.total l.rest

abbrev pub decreases-loop-rest : goal.decreases-loop-rest
decreases-loop-rest l = l.rest
