-- The ranges of the bytes of triples, and what going through them answers. Assumes nothing.
use Rattle.std.specs.Prelude.{ℕ, ◌+◌, ◌*◌, ◌≡◌, List, Option, Result}
use Rattle.answer.specs.declared.Fault.{Fault}
use Rattle.section_bounds.specs.Answers.{FoundOut}
use Rattle.sections.specs.Answers.{EntriesAnswer}

-- ranges that go by the byte's place in its triple; only the third byte has a floor
pub record TripleRanges (floor bound : ℕ → ℕ) (first second third least : ℕ) : Type 0 where
  pub bound_first : (i : ℕ) → bound (3 * i) ≡ first
  pub bound_second : (i : ℕ) → bound (3 * i + 1) ≡ second
  pub bound_third : (i : ℕ) → bound (3 * i + 2) ≡ third
  pub floor_first : (i : ℕ) → floor (3 * i) ≡ 0
  pub floor_second : (i : ℕ) → floor (3 * i + 1) ≡ 0
  pub floor_third : (i : ℕ) → floor (3 * i + 2) ≡ least

-- the first byte of the triples that is out of its range, or none is, for all ranges that go so
abbrev pub TriplesFound : List ℕ → ℕ → ℕ → ℕ → ℕ → ℕ → Option ℕ → Type 0
TriplesFound rest count first second third least answer =
    (floor bound : ℕ → ℕ) → TripleRanges floor bound first second third least → FoundOut rest 2 (3 * count) floor bound answer

-- passing the triples
abbrev pub TriplesAnswer : ℕ → List ℕ → ℕ → ℕ → ℕ → ℕ → ℕ → Result ℕ Fault → Type 0
TriplesAnswer at rest count first second third least answer =
    (floor bound : ℕ → ℕ) → TripleRanges floor bound first second third least → EntriesAnswer 2 (3 * count) floor bound at rest count answer
