-- `section_columns::places_in` meets its contract: the loop passes only places that are in their ranges. Assumes nothing.
use Rattle.section_columns.specs.Triples.{PlacesIn}
use Rattle.section_columns.proofs.places_in.Given as goal

abbrev pub invariant-loop-i : goal.invariant-loop-i
invariant-loop-i l = PlacesIn l.low l.top l.first l.second l.third l.least l.i
