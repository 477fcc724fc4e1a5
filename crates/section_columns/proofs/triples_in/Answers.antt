-- `section_columns::triples_in` meets its contract: the loops keep for each place a byte that none there is above and one that none is
-- below, and where those are in the ranges all are. Assumes nothing.
use native.Mathlib.Omega.{arith}
use borrow.Author.Rules.{rules}
use Rattle.section_columns.proofs.Places.{none_kept, byte_kept, chunk_kept, none_in, chunks_in}
use Rattle.section_columns.proofs.triples_in.Goals as goal

pub returns-then-count-lt64 : goal.returns-then-count-lt64
returns-then-count-lt64 c = none_in _ _ _ _ _ _

pub loop-c-init : goal.loop-c-init
loop-c-init c = (none_kept _ _ _ (search rules), none_kept _ _ _ (search rules))

pub loop-j-init : goal.loop-j-init
loop-j-init c = c.loop-c.invariant

pub loop-j-preserved : goal.loop-j-preserved
loop-j-preserved c =
    let so_far = c.loop-j.invariant in
    let small = c.loop-j-test.true in (
      byte_kept so_far.0 small _ (λ x h. omega (arith, c.max.ensures)) (omega (arith, c.max.ensures)),
      byte_kept so_far.1 small _ (λ x h. omega (arith, c.min.ensures)) (omega (arith, c.min.ensures)),
    )

pub loop-c-preserved : goal.loop-c-preserved
loop-c-preserved c = (chunk_kept c.loop-j.invariant.0 c.loop-j-test.false, chunk_kept c.loop-j.invariant.1 c.loop-j-test.false)

pub returns-then-places_in : goal.returns-then-places_in
returns-then-places_in c =
    let kept = c.loop-c.invariant in
    chunks_in _ kept.0 kept.1 (c.places_in.ensures c.if-places_in.true) c.loop-c-test.false (omega arith)

pub returns : goal.returns
returns c = none_in _ _ _ _ _ _
