-- `confirm_map::onto` meets its contract: the elements of the second table that were passed are gone to. Assumes nothing.
use Rattle.finite.specs.Each.{EachBelow}
use Rattle.confirm_map.specs.Mapping.{map_of, TakenTo}
use Rattle.confirm_map.proofs.onto.Given as goal

abbrev pub invariant-loop-t : goal.invariant-loop-t
invariant-loop-t l = EachBelow (TakenTo (map_of l.map) l.n1) l.t
