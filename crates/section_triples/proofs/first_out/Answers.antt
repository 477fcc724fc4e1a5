-- `section_triples::first_out` meets its contract: behind the triples that are known to be in range the loop passes only such ones, so a
-- byte that stops it is the first that is out. Assumes nothing.
use mathlib.Core.Logic.{inl, inr}
use native.Mathlib.Omega.{arith}
use mir.Facts.{Fits-8_64}
use Rattle.section_bounds.proofs.Laws.{all_in}
use Rattle.section_triples.proofs.TripleBytes.{known_passed, beyond_first, beyond_second, beyond_third, triple_good}
use Rattle.section_triples.proofs.first_out.Goals as goal

pub loop-i-init : goal.loop-i-init
loop-i-init c = (known_passed c.triples_in-known.ensures, c.triples_in-known.ensures.within)

pub overflow_cast-rest : goal.overflow_cast-rest
overflow_cast-rest c = Fits-8_64 (c.type_inv.rest _)

pub returns-then-first-rest : goal.returns-then-first-rest
returns-then-first-rest c floor bound r = beyond_first _ _ _ _ _ c.loop-i.invariant.0 _ c.loop-i-test.true floor bound r c.if-first-rest.true

pub overflow_cast-rest-in-loop-i : goal.overflow_cast-rest-in-loop-i
overflow_cast-rest-in-loop-i c = Fits-8_64 (c.type_inv.rest _)

pub returns-then-second-rest : goal.returns-then-second-rest
returns-then-second-rest c floor bound r = beyond_second _ _ _ _ _ c.loop-i.invariant.0 _ c.loop-i-test.true floor bound r c.if-first-rest.false c.if-second-rest.true

pub overflow_cast-last : goal.overflow_cast-last
overflow_cast-last c = Fits-8_64 (c.type_inv.rest _)

pub returns-then-third-last : goal.returns-then-third-last
returns-then-third-last c floor bound r =
    beyond_third _ _ _ _ _ c.loop-i.invariant.0 _ c.loop-i-test.true floor bound r c.if-first-rest.false c.if-second-rest.false (inr c.if-third-last.true)

pub returns-then-last-least : goal.returns-then-last-least
returns-then-last-least c floor bound r =
    beyond_third _ _ _ _ _ c.loop-i.invariant.0 _ c.loop-i-test.true floor bound r c.if-first-rest.false c.if-second-rest.false (inl c.if-last-least.true)

pub loop-i-preserved : goal.loop-i-preserved
loop-i-preserved c = (
  λ floor bound r.
      triple_good _ _ _ _ _ c.loop-i.invariant.0 _ c.loop-i-test.true floor bound r c.if-first-rest.false c.if-second-rest.false
      (record { above = c.if-last-least.false; below = c.if-third-last.false }),
  omega arith,
)

pub returns : goal.returns
returns c floor bound r = all_in (c.loop-i.invariant.0 floor bound r) (omega arith)
