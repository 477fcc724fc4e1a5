-- The ranges of the marks (s, e, grade), of n elements. Assumes nothing.
use Prim.Native.Nat.{ℕ}
use Rattle.formats.specs.RuleFile.{mark_floor, mark_bound}
use Rattle.formats.proofs.MarkEntries.{floor_start, floor_cycle, floor_grade, bound_start, bound_cycle, bound_grade}
use Rattle.section_triples.specs.Ranges.{TripleRanges}

pub mark_ranges : (n : ℕ) → TripleRanges mark_floor (mark_bound n) n n 4 1
mark_ranges n = record {
  bound_first = λ i. bound_start i n;
  bound_second = λ i. bound_cycle i n;
  bound_third = λ i. bound_grade i n;
  floor_first = floor_start;
  floor_second = floor_cycle;
  floor_third = floor_grade;
}
