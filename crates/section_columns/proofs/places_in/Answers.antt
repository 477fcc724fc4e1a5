-- `section_columns::places_in` meets its contract: the loop passes only places that are in their ranges. Assumes nothing.
use mathlib.Core.Bool.{false≢true}
use Rattle.section_columns.proofs.Places.{no_place, one_place, all_places}
use Rattle.section_columns.proofs.places_in.Goals as goal

pub loop-i-init : goal.loop-i-init
loop-i-init c = no_place _ _ _ _ _ _

pub returns-then-first-top : goal.returns-then-first-top
returns-then-first-top c e = absurd (false≢true e)

pub returns-then-second-top : goal.returns-then-second-top
returns-then-second-top c e = absurd (false≢true e)

pub returns-then-third-top : goal.returns-then-third-top
returns-then-third-top c e = absurd (false≢true e)

pub returns-then-low-place : goal.returns-then-low-place
returns-then-low-place c e = absurd (false≢true e)

pub loop-i-preserved : goal.loop-i-preserved
loop-i-preserved c =
    one_place c.loop-i.invariant
    (record {
      first_below = c.if-first-top.false;
      second_below = c.if-second-top.false;
      third_below = c.if-third-top.false;
      third_above = c.if-low-place.false;
    })

pub returns : goal.returns
returns c e = all_places c.loop-i.invariant c.loop-i-test.false
