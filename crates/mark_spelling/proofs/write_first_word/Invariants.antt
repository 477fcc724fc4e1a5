-- The letters after the entry at hand stand in the buffer, the last one first. The number of the entry falls, so it is the measure.
-- Assumes nothing.
use Rattle.rule_reach.specs.Reach.{place_at}
use Rattle.rule_reach.proofs.Words.{word_at}
use Rattle.mark_spelling.proofs.Writing.{Spelling}
use Rattle.mark_spelling.proofs.write_first_word.Given as goal

abbrev pub invariant-loop-place : goal.invariant-loop-place
invariant-loop-place l = Spelling l.queue (word_at l.queue (place_at l.queue l.s)) l.place l.initial.out l.out l.letters

abbrev pub decreases-loop-place : goal.decreases-loop-place
decreases-loop-place l = l.place
