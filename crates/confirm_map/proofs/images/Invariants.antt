-- `confirm_map::images` meets its contract: the letters that were passed are carried over. Assumes nothing.
use Rattle.formats.specs.Table.{morphism_at}
use Rattle.finite.specs.Each.{EachBelow}
use Rattle.confirm_map.specs.Mapping.{map_of, ImageCarried}
use Rattle.confirm_map.proofs.images.Given as goal

abbrev pub invariant-loop-x : goal.invariant-loop-x
invariant-loop-x l = EachBelow (ImageCarried (morphism_at l.first l.n1 l.k) (morphism_at l.second l.n2 l.k) (map_of l.map)) l.x
