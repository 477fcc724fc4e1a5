-- `confirm_map::products_from` meets its contract: the products with the elements that were passed are carried over. Assumes nothing.
use Rattle.formats.specs.Table.{morphism_at}
use Rattle.finite.specs.Each.{EachBelow}
use Rattle.confirm_map.specs.Mapping.{map_of, ProductCarried}
use Rattle.confirm_map.proofs.products_from.Given as goal

abbrev pub invariant-loop-t : goal.invariant-loop-t
invariant-loop-t l = EachBelow (ProductCarried (morphism_at l.first l.n1 l.k) (morphism_at l.second l.n2 l.k) (map_of l.map) l.s) l.t
