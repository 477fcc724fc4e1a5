-- `section_triples::triples` meets its contract: what the search found is the first byte out of its range, and where it found nothing all
-- of them are good. Assumes nothing.
use Prim.Native.Nat.{ℕ, ◌*◌, ◌<◌}
use mathlib.Core.Path.{refl}
use native.Mathlib.Omega.{arith}
use Rattle.formats.proofs.Sections.{FirstOut, entries_cut, entries_out}
use Rattle.section_bounds.proofs.Laws.{found_at, found_nothing}
use Rattle.section_triples.specs.Ranges.{TripleRanges}
use Rattle.section_triples.proofs.TripleBytes.{found_below}
use Rattle.section_triples.proofs.triples.Goals as goal

below : (c : goal.In-Some) → c.in-Some.i < 3 * c.args.count
below c =
    let call = c.first_out in
    found_below _ _ _ _ _ _ call.result call.ensures c.in-Some.is

-- the byte that was found
out : (c : goal.In-Some) (floor bound : ℕ → ℕ)
    → TripleRanges floor bound c.args.first c.args.second c.args.third c.args.least
    → FirstOut c.args.rest.now 2 (3 * c.args.count) floor bound c.in-Some.i
out c floor bound r =
    let call = c.first_out in
    found_at call.result (call.ensures floor bound r) c.in-Some.is

pub returns-then-rest-count : goal.returns-then-rest-count
returns-then-rest-count c floor bound r input = entries_cut _ _ floor bound input _ _ c.if-rest-count.true

pub overflow_add-result-in-Some : goal.overflow_add-result-in-Some
overflow_add-result-in-Some c = omega (arith, below c)

pub overflow_add-result-in-Some-2 : goal.overflow_add-result-in-Some-2
overflow_add-result-in-Some-2 c = omega (arith, below c)

pub returns-in-Some : goal.returns-in-Some
returns-in-Some c floor bound r input = entries_out _ _ floor bound input _ _ c.if-rest-count.false (out c floor bound r)

pub returns-in-None : goal.returns-in-None
returns-in-None c floor bound r =
    let call = c.first_out in
    record {
      good = record { present = c.if-rest-count.false; entries = found_nothing call.result (call.ensures floor bound r) c.in-None.is };
      is_count = refl;
    }
