use Rattle.formats.specs.Table.{morphism_at}
use Rattle.mark_search.proofs.Escaping.{SearchedTo}
use Rattle.mark_search.proofs.search_all.Given as goal

abbrev pub invariant-loop-s : goal.invariant-loop-s
invariant-loop-s l = SearchedTo (morphism_at l.rule l.n l.k) l.least l.first l.second l.s l.initial.scratch l.scratch
