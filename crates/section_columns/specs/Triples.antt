-- Triples of bytes after a count of two bytes, each byte in its range; and the greatest and the least byte of their columns, by places. Assumes nothing.
use Rattle.std.specs.Prelude.{ℕ, ◌+◌, ◌*◌, ◌≤◌, ◌<◌, List, get_or}
use Rattle.formats.specs.Sections.{InRange}

-- the i-th triple
pub record TripleIn (rest : List ℕ) (first second third least i : ℕ) : Type 0 where
  pub first_in : get_or rest (2 + 3 * i) 0 < first
  pub second_in : get_or rest (2 + (3 * i + 1)) 0 < second
  pub third_in : InRange least third (get_or rest (2 + (3 * i + 2)) 0)

-- some of the triples, from the first on
pub record SomeTriplesIn (rest : List ℕ) (count first second third least some : ℕ) : Type 0 where
  pub within : some ≤ count
  pub each : (i : ℕ) → i < some → TripleIn rest first second third least i

-- the greatest and the least byte of the i-th of some triples of places
pub record PlaceIn (low top : List ℕ) (first second third least i : ℕ) : Type 0 where
  pub first_below : get_or top (3 * i) 0 < first
  pub second_below : get_or top (3 * i + 1) 0 < second
  pub third_below : get_or top (3 * i + 2) 0 < third
  pub third_above : least ≤ get_or low (3 * i + 2) 0

pub record PlacesIn (low top : List ℕ) (first second third least some : ℕ) : Type 0 where
  pub each : (i : ℕ) → i < some → PlaceIn low top first second third least i
