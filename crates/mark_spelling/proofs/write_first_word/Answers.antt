-- The element's byte has the number of its entry. Assumes nothing.
use Rattle.std.proofs.Common.{arith}
use Rattle.rule_reach.specs.Reach.{place_at}
use Rattle.mark_spelling.proofs.Entries.{entry_step, spell_entry, spell_room}
use Rattle.mark_spelling.proofs.Writing.{spelling_none, spelling_room, spelling_more, spelling_all}
use Rattle.mark_spelling.proofs.write_first_word.Goals as goal

pub loop-place-init : goal.loop-place-init
unfolding place_at
loop-place-init c = spelling_none (spell_entry c.requires) (spell_room c.requires)

pub loop-place-preserved : goal.loop-place-preserved
loop-place-preserved c = spelling_more c.loop-place.invariant c.loop-place-test.true

pub loop-place-smaller : goal.loop-place-smaller
loop-place-smaller c = (entry_step c.loop-place.invariant.here c.loop-place-test.true).earlier

pub bounds-out-letters : goal.bounds-out-letters
bounds-out-letters c =
    let inv = c.loop-place.invariant in
    omega (arith, spelling_room inv c.loop-place-test.true, inv.long, inv.same_length)

pub returns : goal.returns
returns c = rw c.reverse.ensures.after (spelling_all c.loop-place.invariant c.loop-place-test.false)
